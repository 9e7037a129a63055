-- The kinds of fields by the numbers of their types, and by what their entries hold.
use Rattle.std.proofs.Common.{◌≡◌, ◌∙◌, inl, inr, ℕ, pos, Bool, cond, ◌||◌, List, [], ◌∷◌, Some, None, map, slice_get, ap, sym, subst, refl}
use Rattle.std.proofs.lemmas.Option.{same_Some}
use Rattle.descriptor_records.specs.Content.{Text, FieldContent, file_view}
use Rattle.descriptor_records.specs.FieldNumbers.{type_number}
use Rattle.descriptor_records.specs.declared.field.FieldType.{FieldType as TypeNumber}
use Rattle.descriptor_records.specs.declared.field.FieldType.TheVariants as numbers
use Rattle.protobuf_model.specs.Types.{nested, sized, tagged, scalar}
use Rattle.reflect_fields.specs.Fields.{is_message, scalar_type}
use Rattle.reflect_fields.specs.Fields as fields
use Rattle.reflect_tables.specs.Names.{FullName, names_of, messages, enums}
use Rattle.reflect_tables.specs.Types.{KindType, MessageType, PoolType, no_type}
use Rattle.reflect_tables.specs.Types as types
use Rattle.schema_view.specs.Declarations.{of_enum, of_message}
use Rattle.schema_view.specs.Fields.{holds_message, is_group, is_packable}
use Rattle.schema_view.specs.Rules.{is_number}
use Rattle.schema_view.specs.Types.{kind_by, kind_of, type_name, undotted}
use Rattle.schema_view.proofs.Road.{AreLinked}
use Rattle.schema_view.proofs.Standing.{StandsIn}
use Rattle.reflect_message.specs.Known.{is_float}
use Rattle.message_view.specs.Singles.{scalar_of}
use Rattle.message_view.specs.Types.{frame_of, kind_in, name_at}
use Rattle.linked_view.specs.Valued.{TellsValues}
use Rattle.reflect_index.proofs.Among.{index_is}
use Rattle.types_view.specs.Fields.{HoldsKind, HoldsScalar, IsWrittenAt, TellsFields}
use Rattle.types_view.proofs.Told.{IsMessageNumber, enum_at, enum_number, enum_told, message_at, message_number, message_told, typed_by}

-- what holds of a field by the number of its type holds by what its entry holds
pub record IsSuited (p : PoolType) (group : Bool) (c : FieldContent) (k : KindType) : Type 0 where
  pub kind : kind_of c ≡ cond (is_float k) None (Some (kind_in p group k))
  pub message : holds_message c ≡ is_message k
  pub packable : is_packable c.field_type ≡ fields.is_packable k

-- ---- scalars

-- what holds of each kind that is no message and no enum holds of what a scalar type holds
pub each_scalar : (P : KindType → Type 0) → P types.double → P types.float → P types.int64
    → P types.uint64 → P types.int32 → P types.fixed64 → P types.fixed32 → P types.bool
    → P types.string → P types.bytes → P types.uint32 → P types.sfixed32 → P types.sfixed64
    → P types.sint32 → P types.sint64 → (t : TypeNumber) (k : KindType) → scalar_type t ≡ Some k
    → P k
each_scalar P d f i64 u64 i32 f64 f32 b s bs u32 sf32 sf64 s32 s64 t k e = by t e where
  at : (j : KindType) → P j → Some j ≡ Some k → P k
  at j h same = subst P (same_Some j k same) h

  by : (t : TypeNumber) → scalar_type t ≡ Some k → P k
  by numbers.Double e = at types.double d e
  by numbers.Float e = at types.float f e
  by numbers.Int64 e = at types.int64 i64 e
  by numbers.Uint64 e = at types.uint64 u64 e
  by numbers.Int32 e = at types.int32 i32 e
  by numbers.Fixed64 e = at types.fixed64 f64 e
  by numbers.Fixed32 e = at types.fixed32 f32 e
  by numbers.Bool e = at types.bool b e
  by numbers.String e = at types.string s e
  by numbers.Bytes e = at types.bytes bs e
  by numbers.Uint32 e = at types.uint32 u32 e
  by numbers.Sfixed32 e = at types.sfixed32 sf32 e
  by numbers.Sfixed64 e = at types.sfixed64 sf64 e
  by numbers.Sint32 e = at types.sint32 s32 e
  by numbers.Sint64 e = at types.sint64 s64 e
  by numbers.Group e = absurd (cc e)
  by numbers.Message e = absurd (cc e)
  by numbers.Enum e = absurd (cc e)

pub scalar_kind : (p : PoolType) (group : Bool) (t : TypeNumber) (k : KindType) → scalar_type t ≡ Some k
    → kind_in p group k ≡ scalar (scalar_of k)
scalar_kind p group =
    each_scalar (λ k. kind_in p group k ≡ scalar (scalar_of k)) refl refl refl refl refl refl refl
    refl refl refl refl refl refl refl refl

module _ (p : PoolType) (group : Bool) (c : FieldContent) where
  made : (t : TypeNumber) (j k : KindType) → c.field_type ≡ Some (type_number t) → Some j ≡ Some k
      → kind_by (Some (type_number t)) (type_name c) ≡ cond (is_float j) None (Some (kind_in p group j))
      → (is_number (pos 10) (Some (type_number t)) || is_number (pos 11) (Some (type_number t)))
      ≡ is_message j
      → is_packable (Some (type_number t)) ≡ fields.is_packable j → IsSuited p group c k
  made t j k e h kind message packable = subst (IsSuited p group c) (same_Some j k h) (record {
    kind = ap (λ o. kind_by o (type_name c)) e ∙ kind;
    message = ap (λ o. is_number (pos 10) o || is_number (pos 11) o) e ∙ message;
    packable = ap is_packable e ∙ packable;
  })

  scalar_suited : (t : TypeNumber) (k : KindType) → c.field_type ≡ Some (type_number t)
      → scalar_type t ≡ Some k → IsSuited p group c k
  scalar_suited numbers.Double k e h = made numbers.Double types.double k e h refl refl refl
  scalar_suited numbers.Float k e h = made numbers.Float types.float k e h refl refl refl
  scalar_suited numbers.Int64 k e h = made numbers.Int64 types.int64 k e h refl refl refl
  scalar_suited numbers.Uint64 k e h = made numbers.Uint64 types.uint64 k e h refl refl refl
  scalar_suited numbers.Int32 k e h = made numbers.Int32 types.int32 k e h refl refl refl
  scalar_suited numbers.Fixed64 k e h = made numbers.Fixed64 types.fixed64 k e h refl refl refl
  scalar_suited numbers.Fixed32 k e h = made numbers.Fixed32 types.fixed32 k e h refl refl refl
  scalar_suited numbers.Bool k e h = made numbers.Bool types.bool k e h refl refl refl
  scalar_suited numbers.String k e h = made numbers.String types.string k e h refl refl refl
  scalar_suited numbers.Group k e h = absurd (cc h)
  scalar_suited numbers.Message k e h = absurd (cc h)
  scalar_suited numbers.Bytes k e h = made numbers.Bytes types.bytes k e h refl refl refl
  scalar_suited numbers.Uint32 k e h = made numbers.Uint32 types.uint32 k e h refl refl refl
  scalar_suited numbers.Enum k e h = absurd (cc h)
  scalar_suited numbers.Sfixed32 k e h = made numbers.Sfixed32 types.sfixed32 k e h refl refl refl
  scalar_suited numbers.Sfixed64 k e h = made numbers.Sfixed64 types.sfixed64 k e h refl refl refl
  scalar_suited numbers.Sint32 k e h = made numbers.Sint32 types.sint32 k e h refl refl refl
  scalar_suited numbers.Sint64 k e h = made numbers.Sint64 types.sint64 k e h refl refl refl

  -- ---- messages and enums

  named_in : (full : Text) → c.type_name ≡ Some (46 ∷ full) → type_name c ≡ full
  named_in full e = ap (λ o. elim o [ None ↦ [] | Some t ↦ undotted t ]) e

  message_suited : (i : ℕ) (m : MessageType) → slice_get p.messages i ≡ Some m
      → c.type_name ≡ Some (46 ∷ m.full_name) → IsMessageNumber c.field_type → group ≡ is_group c
      → IsSuited p group c (types.message i)
  message_suited i m at written (inl ten) frame =
      let name : type_name c ≡ name_at p i =
      named_in m.full_name written
      ∙ sym (ap (λ (x : MessageType). x.full_name) (index_is p.messages i m no_type at)) in
      record {
        kind = ap (λ o. kind_by o (type_name c)) ten
            ∙ ap (λ n. Some (nested tagged n)) name
            ∙ sym (ap (λ b. Some (nested (frame_of b) (name_at p i)))
            (frame ∙ ap (is_number (pos 10)) ten));
        message = ap (λ o. is_number (pos 10) o || is_number (pos 11) o) ten;
        packable = ap is_packable ten;
      }
  message_suited i m at written (inr eleven) frame =
      let name : type_name c ≡ name_at p i =
      named_in m.full_name written
      ∙ sym (ap (λ (x : MessageType). x.full_name) (index_is p.messages i m no_type at)) in
      record {
        kind = ap (λ o. kind_by o (type_name c)) eleven
            ∙ ap (λ n. Some (nested sized n)) name
            ∙ sym (ap (λ b. Some (nested (frame_of b) (name_at p i)))
            (frame ∙ ap (is_number (pos 10)) eleven));
        message = ap (λ o. is_number (pos 10) o || is_number (pos 11) o) eleven;
        packable = ap is_packable eleven;
      }

  enum_suited : (i : ℕ) → c.field_type ≡ Some (pos 14)
      → IsSuited p group c (types.enumeration i)
  enum_suited i e = record {
    kind = ap (λ o. kind_by o (type_name c)) e;
    message = ap (λ o. is_number (pos 10) o || is_number (pos 11) o) e;
    packable = ap is_packable e;
  }

-- ---- each

-- a scalar, a message or an enum
pub data Sorted (ms es : List FullName) (c : FieldContent) : KindType → Type 0 where
  a_scalar : {k : KindType} → HoldsScalar c k → Sorted ms es c k
  a_message : {i : ℕ} → IsWrittenAt ms c.type_name i → Sorted ms es c (types.message i)
  an_enum : {i : ℕ} → IsWrittenAt es c.type_name i → Sorted ms es c (types.enumeration i)

pub sorted : (ms es : List FullName) (c : FieldContent) (k : KindType) → HoldsKind ms es c k
    → Sorted ms es c k
sorted ms es c (types.message i) h = a_message h
sorted ms es c (types.enumeration i) h = an_enum h
sorted ms es c k h = a_scalar h

module _ (p : PoolType) (l : AreLinked (map file_view p.records)) (tells : TellsFields p)
    (values : TellsValues p) (c : FieldContent) (s : StandsIn (map file_view p.records) c) where
  -- the number of the type of a message, and of an enum
  pub number_of_message : (i : ℕ) (m : MessageType) → slice_get p.messages i ≡ Some m
      → c.type_name ≡ Some (46 ∷ m.full_name) → IsMessageNumber c.field_type
  number_of_message i m at written =
      let told = message_told p l tells i m at in
      let by = typed_by p l c s m.full_name (of_message told.facts) written told.declared in
      message_number c.field_type by.typed by.number

  pub suited : (group : Bool) (k : KindType) → group ≡ is_group c
      → Sorted (names_of p messages) (names_of p enums) c k → IsSuited p group c k
  suited group k frame (a_scalar h) = scalar_suited p group c h.type k h.number h.holds
  suited group _ frame (a_message {i} w) =
      let m = message_at p c.type_name i w in
      message_suited p group c i m.type m.at m.written (number_of_message i m.type m.at m.written)
      frame
  suited group _ frame (an_enum {i} w) =
      let e = enum_at p c.type_name i w in
      let told = enum_told p l values i e.type e.at in
      let by = typed_by p l c s e.type.full_name (of_enum told.content) e.written told.declared in
      enum_suited p group c i (enum_number c.field_type by.typed by.number)
