-- How single values are written.
use Rattle.std.proofs.Common.{◌≡◌, ℕ, List, [], ◌∷◌, ◌++◌, map, Option, Some, None, true, is_some, string_bytes, refl, sym, ap, ◌∙◌, append_assoc}
use Rattle.reflect_tables.specs.Types.{PoolType, FieldType, KindType}
use Rattle.reflect_pool.specs.Kinds.{IsKind}
use Rattle.reflect_pool.specs.declared.kind.Kind.{Kind}
use Rattle.reflect_pool.specs.declared.kind.Kind.TheVariants as kinds
use Rattle.reflect_scalar.proofs.Defaulted.{kind_is}
use Rattle.reflect_wire.specs.Encoding.{key_bytes}
use Rattle.reflect_wire.specs.Records.{Payload, key_of}
use Rattle.reflect_scalar.specs.Written.{plain_bytes}
use Rattle.reflect_scalar.specs.Kinds.{kind_type, wire_type}
use Rattle.reflect_scalar.specs.Singles.{Single, truth, int32, int64, uint32, uint64, text, blob, enumerated}
use Rattle.reflect_message.specs.Bytes.{Form, record_in, bare_in, row_in, form_of, framed, message_bytes, value_step, message_step, held_step, parts_step}
use Rattle.reflect_encode.specs.Puts.{form, bare_bytes, single_bytes, row_bytes}
use Rattle.reflect_message.specs.Singles.{single}
use Rattle.reflect_message.specs.Names.{DynamicMessage, Held, Parts, Value}
use Rattle.reflect_message.specs.declared.parts.HeldOf.TheFolds.{map-ValueOf, fold-HeldOf, fold-ValueOf, fold-MessageOf, fold-PartsOf, fold-roll-ValueOf, fold_out-MessageOf, fold_out-ValueOf}
use Rattle.reflect_message.specs.declared.parts.HeldOf.TheOpen.{ValueOf-F}
use Rattle.reflect_message.specs.declared.parts.HeldOf.TheViews.{out-ValueOf, roll-ValueOf, roll-out-ValueOf}
use Rattle.reflect_message.specs.declared.value.ValueOf as values
use denote.Hole.Carrier.{roll}
use Rattle.reflect_pool.specs.declared.message.MessageDescriptor.{MessageDescriptor}

one_record : (kind : Kind) (n : ℕ) (v : Single) → single_bytes kind n (Some v) ≡ record_in (kind_type kind) n (Some v)
one_record kinds.Int32 n (int32 z) = refl
one_record kinds.Int64 n (int64 z) = refl
one_record kinds.Uint32 n (uint32 m) = refl
one_record kinds.Uint64 n (uint64 m) = refl
one_record kinds.Sint32 n (int32 z) = refl
one_record kinds.Sint64 n (int64 z) = refl
one_record kinds.Fixed32 n (uint32 m) = refl
one_record kinds.Fixed64 n (uint64 m) = refl
one_record kinds.Sfixed32 n (int32 z) = refl
one_record kinds.Sfixed64 n (int64 z) = refl
one_record kinds.Bool n (truth b) = refl
one_record (kinds.Enum e) n (enumerated z) = refl
one_record kinds.String n (text t) = refl
one_record kinds.Bytes n (blob b) = refl
one_record kind n v = refl

one_bare : (kind : Kind) (v : Single) → bare_bytes kind (Some v) ≡ bare_in (kind_type kind) (Some v)
one_bare (kinds.Enum e) (enumerated z) = refl
one_bare kind v = refl

-- the key before a value
pub keyed : (kind : Kind) (n : ℕ) (o : Option Single) (old mid new : List ℕ) → is_some (form kind o) ≡ true → mid ≡ bare_bytes kind o ++ old → new ≡ key_bytes (key_of n (wire_type kind)) ++ mid → new ≡ single_bytes kind n o ++ old
keyed kind n o old mid new some put key = by (form kind o) some put where
  by : (p : Option Payload) → is_some p ≡ true → mid ≡ elim p [ None ↦ [] | Some p ↦ plain_bytes p ] ++ old → new ≡ elim p [ None ↦ [] | Some p ↦ key_bytes (key_of n (wire_type kind)) ++ plain_bytes p ] ++ old
  by None e h = absurd (cc e)
  by (Some p) e h = key ∙ ap (λ l. key_bytes (key_of n (wire_type kind)) ++ l) h ∙ sym (append_assoc (key_bytes (key_of n (wire_type kind))) (plain_bytes p) old)

-- the record of a single value, in words of the pool
pub record_same : (pool : PoolType) (kind : Kind) (k : KindType) (n : ℕ) (o : Option Single) → IsKind pool kind k → single_bytes kind n o ≡ record_in k n o
record_same pool kind k n None is = refl
record_same pool kind k n (Some v) is = one_record kind n v ∙ ap (λ k. record_in k n (Some v)) (sym (kind_is pool kind k is))

bare_same : (pool : PoolType) (kind : Kind) (k : KindType) (o : Option Single) → IsKind pool kind k → bare_bytes kind o ≡ bare_in k o
bare_same pool kind k None is = refl
bare_same pool kind k (Some v) is = one_bare kind v ∙ ap (λ k. bare_in k (Some v)) (sym (kind_is pool kind k is))

-- a value is seen as the single value that it is
pub single_seen : (v : Value) → (form_of v).single ≡ single v
single_seen v = ap (λ w. w.single) (fold_out-ValueOf MessageDescriptor (PoolType → ℕ → List ℕ) Form (List ℕ) (PoolType → ℕ → List ℕ) held_step value_step message_step parts_step v) ∙ by (out-ValueOf MessageDescriptor v) where
  by : (o : ValueOf-F MessageDescriptor Held Value DynamicMessage Parts)
      → (value_step (map-ValueOf MessageDescriptor Held Value DynamicMessage Parts (PoolType → ℕ → List ℕ) Form (List ℕ) (PoolType → ℕ → List ℕ)
      (fold-HeldOf MessageDescriptor (PoolType → ℕ → List ℕ) Form (List ℕ) (PoolType → ℕ → List ℕ) held_step value_step message_step parts_step)
      (fold-ValueOf MessageDescriptor (PoolType → ℕ → List ℕ) Form (List ℕ) (PoolType → ℕ → List ℕ) held_step value_step message_step parts_step)
      (fold-MessageOf MessageDescriptor (PoolType → ℕ → List ℕ) Form (List ℕ) (PoolType → ℕ → List ℕ) held_step value_step message_step parts_step)
      (fold-PartsOf MessageDescriptor (PoolType → ℕ → List ℕ) Form (List ℕ) (PoolType → ℕ → List ℕ) held_step value_step message_step parts_step) o)).single
      ≡ elim o [
        | ValueOf-F.Bool b ↦ Some (truth b)
        | ValueOf-F.I32 z ↦ Some (int32 z)
        | ValueOf-F.I64 z ↦ Some (int64 z)
        | ValueOf-F.U32 n ↦ Some (uint32 n)
        | ValueOf-F.U64 n ↦ Some (uint64 n)
        | ValueOf-F.String t ↦ Some (text (string_bytes t))
        | ValueOf-F.Bytes b ↦ Some (blob b.items)
        | ValueOf-F.EnumNumber z ↦ Some (enumerated z)
        | ValueOf-F.Message m ↦ None
        | ValueOf-F.List vs ↦ None
        | ValueOf-F.Map es ↦ None
      ]
  by (ValueOf-F.Bool b) = refl
  by (ValueOf-F.I32 z) = refl
  by (ValueOf-F.I64 z) = refl
  by (ValueOf-F.U32 n) = refl
  by (ValueOf-F.U64 n) = refl
  by (ValueOf-F.String t) = refl
  by (ValueOf-F.Bytes b) = refl
  by (ValueOf-F.EnumNumber z) = refl
  by (ValueOf-F.Message m) = refl
  by (ValueOf-F.List vs) = refl
  by (ValueOf-F.Map es) = refl

-- values one behind the other, in words of the pool
pub row_same : (pool : PoolType) (kind : Kind) (k : KindType) (vs : List Value) → IsKind pool kind k → row_bytes kind (map single vs) ≡ row_in k (map form_of vs)
row_same pool kind k [] is = refl
row_same pool kind k (v ∷ vs) is =
    ap (λ l. l ++ row_bytes kind (map single vs)) (ap (bare_bytes kind) (sym (single_seen v)) ∙ bare_same pool kind k (form_of v).single is)
    ∙ ap (λ l. bare_in k (form_of v).single ++ l) (row_same pool kind k vs is)

-- one value that is no message is written as the single value that it is
pub one_single : (v : Value) (f : FieldType) → ((m : DynamicMessage) → v ≡ values.Message m → ⊥) → (form_of v).one f ≡ record_in f.kind f.number (single v)
unfolding roll-ValueOf roll
one_single v f other = ap (λ w. w.one f) (fold_out-ValueOf MessageDescriptor (PoolType → ℕ → List ℕ) Form (List ℕ) (PoolType → ℕ → List ℕ) held_step value_step message_step parts_step v) ∙ by (out-ValueOf MessageDescriptor v) refl where
  by : (o : ValueOf-F MessageDescriptor Held Value DynamicMessage Parts) → out-ValueOf MessageDescriptor v ≡ o
      → (value_step (map-ValueOf MessageDescriptor Held Value DynamicMessage Parts (PoolType → ℕ → List ℕ) Form (List ℕ) (PoolType → ℕ → List ℕ)
      (fold-HeldOf MessageDescriptor (PoolType → ℕ → List ℕ) Form (List ℕ) (PoolType → ℕ → List ℕ) held_step value_step message_step parts_step)
      (fold-ValueOf MessageDescriptor (PoolType → ℕ → List ℕ) Form (List ℕ) (PoolType → ℕ → List ℕ) held_step value_step message_step parts_step)
      (fold-MessageOf MessageDescriptor (PoolType → ℕ → List ℕ) Form (List ℕ) (PoolType → ℕ → List ℕ) held_step value_step message_step parts_step)
      (fold-PartsOf MessageDescriptor (PoolType → ℕ → List ℕ) Form (List ℕ) (PoolType → ℕ → List ℕ) held_step value_step message_step parts_step) o)).one f
      ≡ record_in f.kind f.number (elim o [
        | ValueOf-F.Bool b ↦ Some (truth b)
        | ValueOf-F.I32 z ↦ Some (int32 z)
        | ValueOf-F.I64 z ↦ Some (int64 z)
        | ValueOf-F.U32 n ↦ Some (uint32 n)
        | ValueOf-F.U64 n ↦ Some (uint64 n)
        | ValueOf-F.String t ↦ Some (text (string_bytes t))
        | ValueOf-F.Bytes b ↦ Some (blob b.items)
        | ValueOf-F.EnumNumber z ↦ Some (enumerated z)
        | ValueOf-F.Message m ↦ None
        | ValueOf-F.List vs ↦ None
        | ValueOf-F.Map es ↦ None
      ])
  by (ValueOf-F.Bool b) e = refl
  by (ValueOf-F.I32 z) e = refl
  by (ValueOf-F.I64 z) e = refl
  by (ValueOf-F.U32 n) e = refl
  by (ValueOf-F.U64 n) e = refl
  by (ValueOf-F.String t) e = refl
  by (ValueOf-F.Bytes b) e = refl
  by (ValueOf-F.EnumNumber z) e = refl
  by (ValueOf-F.Message m) e = absurd (other m (sym (roll-out-ValueOf MessageDescriptor v) ∙ ap (roll-ValueOf MessageDescriptor) e))
  by (ValueOf-F.List vs) e = refl
  by (ValueOf-F.Map es) e = refl

-- a message is written by its records
pub message_formed : (v : Value) (m : DynamicMessage) (f : FieldType) → v ≡ values.Message m → (form_of v).one f ≡ framed f (message_bytes m)
unfolding roll-ValueOf roll
message_formed v m f is =
    ap (λ (v : Value). (form_of v).one f) is ∙ ap (λ w. w.one f) (fold-roll-ValueOf MessageDescriptor (PoolType → ℕ → List ℕ) Form (List ℕ) (PoolType → ℕ → List ℕ) held_step value_step message_step parts_step (ValueOf-F.Message m))
    ∙ ap (framed f) (fold_out-MessageOf MessageDescriptor (PoolType → ℕ → List ℕ) Form (List ℕ) (PoolType → ℕ → List ℕ) held_step value_step message_step parts_step m)
