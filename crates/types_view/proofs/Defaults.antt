-- The defaults of fields by their records, and by their entries.
use Rattle.std.proofs.Common.{◌≡◌, ◌∙◌, ◌⊎◌, inl, inr, ◌<◌, ◌^◌, ℕ, ℤ, pos, negsuc, nat_lt, Bool, true, false, cond, bytes_eq, codes, List, [], ◌∷◌, Option, Some, None, map, slice_get, slice_index_or, ap, sym, subst, refl, arith}
use Rattle.std.proofs.lemmas.Option.{same_Some}
use Rattle.std.specs.Prelude.{FitsSigned}
use Rattle.std.specs.Int.{w32}
use Rattle.std.specs.List.{Contains, find}
use Rattle.std.specs.Option.{option_and_then, option_map, option_or}
use Rattle.std.proofs.lemmas.Slice.Eq.{bytes_eq-Decides}
use Rattle.std.specs.Str.Parse.{digits_value, signed_digits_value}
use Rattle.descriptor_records.specs.Content.{Text, EnumContent, EnumValueContent, FieldContent, FileContent, file_view}
use Rattle.descriptor_records.specs.FieldNumbers.{IsTypeOf, type_number}
use Rattle.descriptor_records.specs.declared.field.FieldType.{FieldType as TypeNumber}
use Rattle.descriptor_records.specs.declared.field.FieldType.TheVariants as numbers
use Rattle.protobuf_model.specs.Types.{scalar}
use Rattle.protobuf_model.specs.Types as kinds
use Rattle.protobuf_model.specs.Values as model
use Rattle.protobuf_model.specs.Values.{Single, enumerated}
use Rattle.reflect_defaults.specs.Defaults.{Says}
use Rattle.reflect_defaults.specs.declared.default.DefaultText.{DefaultText}
use Rattle.reflect_defaults.specs.declared.default.DefaultText.TheVariants as says
use Rattle.reflect_fields.specs.FieldDefaults.{IsDefaultOf, IsNumbered, IsScalarDefault, default_type}
use Rattle.reflect_fields.specs.Fields.{scalar_type}
use Rattle.reflect_tables.specs.Names.{enums, messages, names_of}
use Rattle.reflect_tables.specs.Types.{DefaultType, EnumType, KindType, PoolType, ValueType, no_enum}
use Rattle.reflect_tables.specs.Types as types
use Rattle.schema_view.specs.Declarations.{Body, MessageFacts, of_message, of_field, of_enum, of_extension}
use Rattle.schema_view.specs.Lawful.{HasNamedDefault, IsSettled, outlines}
use Rattle.schema_view.specs.Outlines.{IsDeclared, Outline, enum_sort, sort_of, value_name}
use Rattle.schema_view.specs.Scalars.{IsDefault, is_scalar}
use Rattle.schema_view.specs.Types as said
use Rattle.schema_view.specs.Types.{field_in, first_number, number_in, said_of, type_at, value_number, values_of, zero_of}
use Rattle.schema_view.specs.Views.{or_else, when}
use Rattle.schema_view.proofs.Lists.{contains_cases, contains_none}
use Rattle.schema_view.proofs.Road.{AreLinked}
use Rattle.schema_view.proofs.Standing.{StandsIn, field_sound}
use Rattle.reflect_scalar.specs.Defaults.{declared_in, kind_default, narrow, narrow_unsigned}
use Rattle.reflect_scalar.specs.Singles as held
use Rattle.reflect_message.specs.Known.{is_float}
use Rattle.reflect_pool.specs.Parts.{no_value}
use Rattle.message_view.specs.Singles.{scalar_of, single_view}
use Rattle.message_view.specs.Types.{kind_in}
use Rattle.linked_view.specs.Valued.{NumberedValue, TellsValues, numbered_value}
use Rattle.reflect_index.proofs.Among.{index_is}
use Rattle.linked_view.proofs.Defaults.{one_type, says_from, type_only}
use Rattle.types_view.specs.Fields.{HasDefault, IsGiven, TellsFields}
use Rattle.types_view.proofs.KindNumbers.{Sorted, a_message, a_scalar, an_enum, each_scalar, scalar_kind}
use Rattle.types_view.proofs.Told.{EnumTold, IsDeclaredAs, V, enum_at, enum_told, message_at, message_told, of_sort, one_body, type_is}

-- the default of a kind, where this is declared
abbrev pub default_by : PoolType → KindType → Option DefaultType → Single
default_by p k d = elim (option_or (option_and_then (declared_in p k) d) (kind_default p k))
    [ None ↦ model.text [] | Some v ↦ single_view v ]

-- ---- scalars

narrow_fits : (z : ℤ) → FitsSigned w32 z → narrow z ≡ Some (held.int32 z)
narrow_fits (pos n) h =
    let less = h.sfits in
    let low : nat_lt n (2 ^ 31) ≡ true = grind (arith, less) in
    ap (λ b. cond b (Some (held.int32 (pos n))) None) low
narrow_fits (negsuc n) h =
    let less = h.sfits in
    let low : nat_lt n (2 ^ 31) ≡ true = grind (arith, less) in
    ap (λ b. cond b (Some (held.int32 (negsuc n))) None) low

narrow_unsigned_fits : (n : ℕ) → n < 2 ^ 32 → narrow_unsigned n ≡ Some (held.uint32 n)
narrow_unsigned_fits n less =
    let low : nat_lt n (2 ^ 32) ≡ true = grind (arith, less) in
    ap (λ b. cond b (Some (held.uint32 n)) None) low

scalar_is : (t : TypeNumber) (k : KindType) → scalar_type t ≡ Some k
    → is_scalar (type_number t) ≡ true
scalar_is numbers.Group k e = absurd (cc e)
scalar_is numbers.Message k e = absurd (cc e)
scalar_is numbers.Enum k e = absurd (cc e)
scalar_is t k e = refl

module _ (p : PoolType) (vs : List EnumValueContent) where
  scalar_zero : (t : TypeNumber) (k : KindType) → scalar_type t ≡ Some k → is_float k ≡ false
      → default_by p k None ≡ zero_of vs (scalar (scalar_of k))
  scalar_zero =
      each_scalar (λ k. is_float k ≡ false → default_by p k None ≡ zero_of vs (scalar (scalar_of k)))
      (λ f. absurd (cc f)) (λ f. absurd (cc f)) (λ f. refl) (λ f. refl) (λ f. refl) (λ f. refl)
      (λ f. refl) (λ f. refl) (λ f. refl) (λ f. refl) (λ f. refl) (λ f. refl) (λ f. refl)
      (λ f. refl) (λ f. refl)

  module _ (s : Text) where
    abbrev IsSaid : KindType → DefaultText → Type 0
    IsSaid k d = is_float k ≡ false
        → default_by p k (Some (default_type s d)) ≡ said_of vs (scalar (scalar_of k)) s

    -- what is said is what the type's text says
    said_at : (j k : KindType) (d e : DefaultText) → Some j ≡ Some k → d ≡ e → IsSaid j e
        → IsSaid k d
    said_at j k d e h is own =
        subst (λ i. IsSaid i d) (same_Some j k h) (subst (IsSaid j) (sym is) own)

    abbrev or_kind : KindType → Option held.Single → Single
    or_kind k o = elim (option_or o (kind_default p k)) [ None ↦ model.text [] | Some v ↦ single_view v ]

    truth_said : (k : KindType) (b : Bool) → Some types.bool ≡ Some k → Says numbers.Bool s (says.Bool b)
        → IsSaid k (says.Bool b)
    truth_said k true e h = said_at types.bool k (says.Bool true) (says.Bool true) e refl
        (λ f. sym (ap (λ (x : Text). model.truth (bytes_eq x (codes "true"))) h))
    truth_said k false e h = said_at types.bool k (says.Bool false) (says.Bool false) e refl
        (λ f. sym (ap (λ (x : Text). model.truth (bytes_eq x (codes "true"))) h))

    scalar_said : (t : TypeNumber) (k : KindType) (d : DefaultText) → scalar_type t ≡ Some k
        → Says t s d → IsSaid k d
    scalar_said numbers.Double k d e h =
        said_at types.double k d says.Float e h (λ f. absurd (cc f))
    scalar_said numbers.Float k d e h =
        said_at types.float k d says.Float e h (λ f. absurd (cc f))
    scalar_said numbers.Int64 k d e h = said_at types.int64 k d _ e h.1 (λ f. refl)
    scalar_said numbers.Uint64 k d e h = said_at types.uint64 k d _ e h.1 (λ f. refl)
    scalar_said numbers.Int32 k d e h = said_at types.int32 k d _ e h.1
        (λ f. ap (or_kind types.int32) (narrow_fits (signed_digits_value 10 s) h.0.1))
    scalar_said numbers.Fixed64 k d e h = said_at types.fixed64 k d _ e h.1 (λ f. refl)
    scalar_said numbers.Fixed32 k d e h = said_at types.fixed32 k d _ e h.1
        (λ f. ap (or_kind types.fixed32) (narrow_unsigned_fits (digits_value 10 s) h.0.1))
    scalar_said numbers.Bool k (says.Bool b) e h = truth_said k b e h
    scalar_said numbers.String k d e h = said_at types.string k d says.Text e h (λ f. refl)
    scalar_said numbers.Bytes k d e h = said_at types.bytes k d says.Bytes e h.1 (λ f. refl)
    scalar_said numbers.Uint32 k d e h = said_at types.uint32 k d _ e h.1
        (λ f. ap (or_kind types.uint32) (narrow_unsigned_fits (digits_value 10 s) h.0.1))
    scalar_said numbers.Sfixed32 k d e h = said_at types.sfixed32 k d _ e h.1
        (λ f. ap (or_kind types.sfixed32) (narrow_fits (signed_digits_value 10 s) h.0.1))
    scalar_said numbers.Sfixed64 k d e h = said_at types.sfixed64 k d _ e h.1 (λ f. refl)
    scalar_said numbers.Sint32 k d e h = said_at types.sint32 k d _ e h.1
        (λ f. ap (or_kind types.sint32) (narrow_fits (signed_digits_value 10 s) h.0.1))
    scalar_said numbers.Sint64 k d e h = said_at types.sint64 k d _ e h.1 (λ f. refl)
    scalar_said t k d e h = absurd h

    -- a text that is a default of the type is read as what it says
    read_said : (t : TypeNumber) (d : Option DefaultType) → IsDefault t s → IsScalarDefault t s d
        → (x : DefaultText) × Says t s x × (d ≡ Some (default_type s x))
    read_said t d h (Some x, read, is) = (x, read, is)
    read_said t d h (None, read, is) = let x = says_from t s h in absurd (read x.0 x.1)

    written_said : (t : TypeNumber) (k : KindType) (d : Option DefaultType)
        → scalar_type t ≡ Some k → is_float k ≡ false → IsDefault t s
        → (u : Option TypeNumber) × IsTypeOf (type_number t) u × IsDefaultOf u s d
        → default_by p k d ≡ said_of vs (scalar (scalar_of k)) s
    written_said t k d e f h (u, number, read) =
        let x = read_said t d h (subst (λ o. IsDefaultOf o s d)
        (type_only (type_number t) u (Some t) number refl) read) in
        ap (default_by p k) x.2 ∙ scalar_said t k x.0 e x.1 f

-- ---- enums

abbrev numbered : ValueType → NumberedValue
numbered v = (v.name, v.number)

first_value : (vs : List EnumValueContent) (ws : List ValueType)
    → map numbered_value vs ≡ map numbered ws
    → (slice_index_or ws 0 no_value).number ≡ first_number vs
first_value [] [] e = refl
first_value [] (w ∷ ws) e = absurd (cc e)
first_value (v ∷ vs) [] e = absurd (cc e)
first_value (v ∷ vs) (w ∷ ws) e =
    let same : numbered_value v ≡ numbered w = cc e in
    sym (ap (λ (x : NumberedValue). x.1) same)

abbrev HasNumber : List EnumValueContent → List ValueType → Text → Type 0
HasNumber vs ws s = (z : ℤ) × (value_number s vs ≡ Some z)
    × (option_map (λ (v : ValueType). v.number) (find (λ (v : ValueType). bytes_eq v.name s) ws)
    ≡ Some z)

named_value : (s : Text) (vs : List EnumValueContent) (ws : List ValueType)
    → map numbered_value vs ≡ map numbered ws → Contains (map value_name vs) s → HasNumber vs ws s
named_value s [] ws e h = absurd (contains_none s h)
named_value s (v ∷ vs) [] e h = absurd (cc e)
named_value s (v ∷ vs) (w ∷ ws) e h =
    by (bytes_eq (value_name v) s) refl (contains_cases (value_name v) (map value_name vs) s h)
    (λ f j. named_value s vs ws f j) where
      same : numbered_value v ≡ numbered w
      same = cc e

      rest : map numbered_value vs ≡ map numbered ws
      rest = cc e

      name : bytes_eq w.name s ≡ bytes_eq (value_name v) s
      name = sym (ap (λ (x : NumberedValue). bytes_eq x.0 s) same)

      by : (b : Bool) → bytes_eq (value_name v) s ≡ b
          → (value_name v ≡ s) ⊎ Contains (map value_name vs) s
          → (map numbered_value vs ≡ map numbered ws → Contains (map value_name vs) s
          → HasNumber vs ws s) → HasNumber (v ∷ vs) (w ∷ ws) s
      by true is k more = (
        number_in v,
        ap (λ b. or_else (when b (number_in v)) (value_number s vs)) is,
        ap (λ b. option_map (λ (x : ValueType). x.number) (cond b (Some w)
            (find (λ (x : ValueType). bytes_eq x.name s) ws))) (name ∙ is)
            ∙ ap Some (sym (ap (λ (x : NumberedValue). x.1) same)),
      )
      by false is (inl own) more =
          absurd (cc (sym is ∙ (bytes_eq-Decides (value_name v) s).1 own))
      by false is (inr later) more =
          let r = more rest later in (
            r.0,
            ap (λ b. or_else (when b (number_in v)) (value_number s vs)) is ∙ r.1,
            ap (λ b. option_map (λ (x : ValueType). x.number) (cond b (Some w)
                (find (λ (x : ValueType). bytes_eq x.name s) ws))) (name ∙ is) ∙ r.2,
          )

-- ---- each field

settled_in : (os : List Outline) (b : Body) (c : FieldContent) → field_in b ≡ Some c
    → IsSettled os b → HasNamedDefault os c
settled_in os (of_field f) c e h =
    let same : f ≡ c = cc e in subst (HasNamedDefault os) same h.defaults
settled_in os (of_extension f) c e h =
    let same : f ≡ c = cc e in subst (HasNamedDefault os) same h.defaults
settled_in os b c e h = absurd (cc e)

module _ (p : PoolType) (l : AreLinked (map file_view p.records)) (tells : TellsFields p)
    (values : TellsValues p) (c : FieldContent) (s : StandsIn (map file_view p.records) c) where
  abbrev fs : List FileContent
  fs = map file_view p.records

  named_default : HasNamedDefault (outlines fs) c
  named_default =
      settled_in (outlines fs) s.declaration.body c s.is
      ((l.each s.file s.there).settled s.declaration s.inside)

  -- a default that is named stands among the values of the field's enum
  value_there : (full text : Text) (e : EnumContent) → c.type_name ≡ Some (46 ∷ full)
      → IsDeclaredAs p l full (of_enum e) → c.default_value ≡ Some text
      → Contains (map value_name e.value) text
  value_there full text e written declared given = by (named_default text full given written) where
    by : (vs : List Text) × IsDeclared (outlines fs) full (enum_sort vs) × Contains vs text
        → Contains (map value_name e.value) text
    by (vs, there, has) =
        let d = of_sort p l full (enum_sort vs) there in
        let same = one_body p l full d.body (of_enum e) d.declared declared in
        let sorts : enum_sort vs ≡ enum_sort (map value_name e.value) =
        sym d.sort ∙ ap sort_of same in
        let own : vs ≡ map value_name e.value = cc sorts in
        subst (λ xs. Contains xs text) own has

  -- a message has no default
  no_default : (full : Text) (m : MessageFacts) → c.type_name ≡ Some (46 ∷ full)
      → IsDeclaredAs p l full (of_message m) → c.default_value ≡ None
  no_default full m written declared = by c.default_value refl where
    none : (text : Text)
        → (vs : List Text) × IsDeclared (outlines fs) full (enum_sort vs) × Contains vs text → ⊥
    none text (vs, there, has) =
        let d = of_sort p l full (enum_sort vs) there in
        let same = one_body p l full d.body (of_message m) d.declared declared in
        let sorts : enum_sort vs ≡ sort_of (of_message m) = sym d.sort ∙ ap sort_of same in
        cc sorts

    by : (o : Option Text) → c.default_value ≡ o → o ≡ None
    by None e = refl
    by (Some text) e = absurd (none text (named_default text full e written))

  abbrev vs : List EnumValueContent
  vs = values_of (type_at (V p l) c)

  -- what the record gives is what its text says, and its default what is declared
  scalar_same : (t : TypeNumber) (k : KindType) (d : Option DefaultType) (o : Option Text)
      → c.field_type ≡ Some (type_number t) → scalar_type t ≡ Some k → is_float k ≡ false
      → c.default_value ≡ o → elim o as (λ _. Type 0)
      [ None ↦ d ≡ None | Some text ↦ IsGiven k c.field_type text d ]
      → default_by p k d ≡ said.default_of vs o (scalar (scalar_of k))
  scalar_same t k d None number holds held_kind is given =
      ap (default_by p k) given ∙ scalar_zero p vs t k holds held_kind
  scalar_same t k d (Some text) number holds held_kind is given =
      let own = (field_sound fs l c s).default text (type_number t) is number (scalar_is t k holds) in
      let suits : IsDefault t text =
      subst (λ u. IsDefault u text) (one_type own.0 t own.1) own.2 in
      written_said p vs text t k d holds held_kind suits
      (subst (λ n. (u : Option TypeNumber) × IsNumbered n u × IsDefaultOf u text d) number
      (scalar_given t k holds given)) where
        scalar_given : (t : TypeNumber) (k : KindType) → scalar_type t ≡ Some k
            → IsGiven k c.field_type text d
            → (u : Option TypeNumber) × IsNumbered c.field_type u × IsDefaultOf u text d
        scalar_given =
            each_scalar (λ k. IsGiven k c.field_type text d
            → (u : Option TypeNumber) × IsNumbered c.field_type u × IsDefaultOf u text d)
            (λ h. h) (λ h. h) (λ h. h) (λ h. h) (λ h. h) (λ h. h) (λ h. h) (λ h. h) (λ h. h)
            (λ h. h) (λ h. h) (λ h. h) (λ h. h) (λ h. h) (λ h. h)

  module _ (i : ℕ) (e : EnumType) (at : slice_get p.enums i ≡ Some e)
      (written : c.type_name ≡ Some (46 ∷ e.full_name)) (told : EnumTold p l e) where
    enum_is : types.enum_at p i ≡ e
    enum_is = index_is p.enums i e no_enum at

    enum_same : (d : Option DefaultType) (o : Option Text) → c.default_value ≡ o
        → elim o as (λ _. Type 0)
        [ None ↦ d ≡ None | Some text ↦ IsGiven (types.enumeration i) c.field_type text d ]
        → default_by p (types.enumeration i) d
        ≡ said.default_of told.content.value o (scalar kinds.enumeration)
    enum_same d None is given =
        ap (default_by p (types.enumeration i)) given
        ∙ ap (λ (x : EnumType). enumerated (slice_index_or x.values 0 no_value).number) enum_is
        ∙ ap enumerated (first_value told.content.value e.values told.values)
    enum_same d (Some text) is given =
        let v = named_value text told.content.value e.values told.values
        (value_there e.full_name text told.content written told.declared is) in
        ap (default_by p (types.enumeration i)) given
        ∙ ap (or_first text) (ap (λ (x : EnumType). option_map (λ (v : ValueType). v.number)
        (find (λ (v : ValueType). bytes_eq v.name text) x.values)) enum_is ∙ v.2)
        ∙ sym (ap (λ (o : Option ℤ).
        elim o as (λ _. Single) [ None ↦ enumerated (pos 0) | Some z ↦ enumerated z ]) v.1) where
          or_first : Text → Option ℤ → Single
          or_first text o = elim (option_or (option_map held.enumerated o)
              (kind_default p (types.enumeration i))) as (λ _. Single)
              [ None ↦ model.text [] | Some v ↦ single_view v ]

  pub default_same : (group : Bool) (k : KindType) (d : Option DefaultType)
      → Sorted (names_of p messages) (names_of p enums) c k → HasDefault k c d → is_float k ≡ false
      → default_by p k d ≡ said.default_of vs c.default_value (kind_in p group k)
  default_same group k d (a_scalar h) given held_kind =
      scalar_same h.type k d c.default_value h.number h.holds held_kind refl given
      ∙ sym (ap (said.default_of vs c.default_value) (scalar_kind p group h.type k h.holds))
  default_same group _ d (a_message {i} w) given held_kind =
      let m = message_at p c.type_name i w in
      let told = message_told p l tells i m.type m.at in
      let none = no_default m.type.full_name told.facts m.written told.declared in
      let empty : d ≡ None = subst (λ (o : Option Text). elim o as (λ _. Type 0)
      [ None ↦ d ≡ None | Some text ↦ IsGiven (types.message i) c.field_type text d ]) none given in
      ap (default_by p (types.message i)) empty
      ∙ sym (ap (λ o. said.default_of vs o (kind_in p group (types.message i))) none)
  default_same group _ d (an_enum {i} w) given held_kind =
      let e = enum_at p c.type_name i w in
      let told = enum_told p l values i e.type e.at in
      enum_same i e.type e.at e.written told d c.default_value refl given
      ∙ sym (ap (λ b. said.default_of (values_of b) c.default_value (scalar kinds.enumeration))
      (type_is p l c e.type.full_name (of_enum told.content) e.written told.declared))
