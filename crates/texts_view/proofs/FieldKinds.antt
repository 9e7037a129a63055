-- What the type of a field is, by its record and by its entry.
use Rattle.std.proofs.Common.{◌≡◌, ◌∙◌, ℕ, ℤ, pos, Bool, true, false, cond, List, [], ◌∷◌, Option, Some, None, bytes_eq, map, slice_get, ap, sym, subst, refl}
use Rattle.std.proofs.lemmas.Option.{same_Some}
use Rattle.std.specs.List.{find}
use Rattle.std.specs.Option.{option_and_then, option_map}
use Rattle.std.specs.Ordering.{int_eq}
use Rattle.descriptor_records.specs.Content.{Text, EnumValueContent, FieldContent, file_view}
use Rattle.descriptor_records.specs.FieldNumbers.{type_number}
use Rattle.descriptor_records.specs.declared.field.FieldType.{FieldType as TypeNumber}
use Rattle.descriptor_records.specs.declared.field.FieldType.TheVariants as numbers
use Rattle.protobuf_model.specs.Types.{Name}
use Rattle.reflect_fields.specs.Fields.{is_message, scalar_type}
use Rattle.reflect_tables.specs.Names.{FullName, enums, messages, names_of}
use Rattle.reflect_tables.specs.Types.{EnumType, KindType, MessageType, PoolType, ValueType, no_enum, no_type}
use Rattle.reflect_tables.specs.Types as types
use Rattle.reflect_print.specs.Named as print
use Rattle.schema_view.specs.Declarations.{of_enum, of_message}
use Rattle.schema_view.specs.Files.{text_of}
use Rattle.schema_view.specs.Rules.{is_number}
use Rattle.schema_view.specs.Scalars as view
use Rattle.schema_view.specs.Types.{body_at, message_in, type_at, type_name, undotted, value_number, values_of}
use Rattle.schema_view.specs.Views.{View, or_else, view_of, when}
use Rattle.schema_view.proofs.Road.{AreLinked}
use Rattle.linked_view.specs.Valued.{NumberedValue, TellsValues, numbered_value}
use Rattle.reflect_index.proofs.Among.{index_is}
use Rattle.text_view.specs.Names as pool
use Rattle.text_view.specs.Schemas.{is_bytes, is_string}
use Rattle.types_view.specs.Fields.{HoldsKind, HoldsScalar, TellsFields}
use Rattle.types_view.proofs.Held.{own}
use Rattle.types_view.proofs.KindNumbers.{Sorted, a_message, a_scalar, an_enum, each_scalar, sorted}
use Rattle.types_view.proofs.Told.{EnumTold, enum_at, enum_told, message_at, type_is}
use Rattle.texts_view.specs.Named.{is_type_called, message_name, message_of, name_of_value}

-- ---- kinds

abbrev pub is_enum : KindType → Bool
is_enum (types.enumeration i) = true
is_enum _ = false

called_none : (p : PoolType) (w : Text) (k : KindType) → is_message k ≡ false
    → pool.is_type_called p w k ≡ false
called_none p w (types.message i) e = absurd (cc e)
called_none p w k e = refl

label_none : (p : PoolType) (other : Text) (k : KindType) → is_message k ≡ false
    → print.type_name p k other ≡ other
label_none p other (types.message i) e = absurd (cc e)
label_none p other k e = refl

name_none : (p : PoolType) (k : KindType) → is_message k ≡ false → pool.kind_name p k ≡ []
name_none p (types.message i) e = absurd (cc e)
name_none p k e = refl

number_none : (p : PoolType) (w : Text) (k : KindType) → is_enum k ≡ false
    → pool.number_in p k w ≡ None
number_none p w (types.enumeration i) e = absurd (cc e)
number_none p w k e = refl

value_none : (p : PoolType) (z : ℤ) (k : KindType) → is_enum k ≡ false
    → pool.name_in p k z ≡ None
value_none p z (types.enumeration i) e = absurd (cc e)
value_none p z k e = refl

string_number : (t : TypeNumber) (k : KindType) → scalar_type t ≡ Some k
    → is_string k ≡ is_number (pos 9) (Some (type_number t))
string_number numbers.Group k e = absurd (cc e)
string_number numbers.Message k e = absurd (cc e)
string_number numbers.Enum k e = absurd (cc e)
string_number t k e =
    subst (λ j. is_string j ≡ is_number (pos 9) (Some (type_number t))) (same_Some _ k e) refl

bytes_number : (t : TypeNumber) (k : KindType) → scalar_type t ≡ Some k
    → is_bytes k ≡ is_number (pos 12) (Some (type_number t))
bytes_number numbers.Group k e = absurd (cc e)
bytes_number numbers.Message k e = absurd (cc e)
bytes_number numbers.Enum k e = absurd (cc e)
bytes_number t k e =
    subst (λ j. is_bytes j ≡ is_number (pos 12) (Some (type_number t))) (same_Some _ k e) refl

-- ---- values of enums

abbrev numbered : ValueType → NumberedValue
numbered v = (v.name, v.number)

-- what the first value that passes a test gives is one by the records and by the entries
first_found : {X : Type 0} (test : NumberedValue → Bool) (give : NumberedValue → X)
    (said : List EnumValueContent → Option X) → said [] ≡ None
    → ((v : EnumValueContent) (vs : List EnumValueContent) → said (v ∷ vs)
    ≡ or_else (when (test (numbered_value v)) (give (numbered_value v))) (said vs))
    → (vs : List EnumValueContent) (xs : List ValueType) → map numbered_value vs ≡ map numbered xs
    → option_map (λ (x : ValueType). give (numbered x))
    (find (λ (x : ValueType). test (numbered x)) xs) ≡ said vs
first_found test give said none one [] [] e = sym none
first_found test give said none one [] (x ∷ xs) e = absurd (cc e)
first_found test give said none one (v ∷ vs) [] e = absurd (cc e)
first_found {X} test give said none one (v ∷ vs) (x ∷ xs) e =
    ap (λ b. found (cond b (Some x) (find (λ (y : ValueType). test (numbered y)) xs)))
    (sym (ap test same))
    ∙ by (test (numbered_value v)) (first_found test give said none one vs xs rest)
    ∙ sym (one v vs) where
      found : Option ValueType → Option X
      found = option_map (λ (y : ValueType). give (numbered y))

      same : numbered_value v ≡ numbered x
      same = cc e

      rest : map numbered_value vs ≡ map numbered xs
      rest = cc e

      by : (b : Bool) → found (find (λ (y : ValueType). test (numbered y)) xs) ≡ said vs
          → found (cond b (Some x) (find (λ (y : ValueType). test (numbered y)) xs))
          ≡ or_else (when b (give (numbered_value v))) (said vs)
      by true h = ap Some (sym (ap give same))
      by false h = h

number_found : (w : Text) (vs : List EnumValueContent) (xs : List ValueType)
    → map numbered_value vs ≡ map numbered xs
    → option_map (λ (x : ValueType). x.number) (find (λ (x : ValueType). bytes_eq x.name w) xs)
    ≡ value_number w vs
number_found w = first_found (λ (n : NumberedValue). bytes_eq n.0 w) (λ (n : NumberedValue). n.1)
    (value_number w) refl (λ v vs. refl)

name_found : (z : ℤ) (vs : List EnumValueContent) (xs : List ValueType)
    → map numbered_value vs ≡ map numbered xs
    → option_map (λ (x : ValueType). x.name) (find (λ (x : ValueType). int_eq x.number z) xs)
    ≡ name_of_value z vs
name_found z = first_found (λ (n : NumberedValue). int_eq n.1 z) (λ (n : NumberedValue). n.0)
    (name_of_value z) refl (λ v vs. refl)

-- ---- of a pool

module _ (p : PoolType) (l : AreLinked (map file_view p.records)) (tells : TellsFields p)
    (values : TellsValues p) where
  abbrev W : View
  W = view_of (map file_view p.records)

  abbrev ms : List FullName
  ms = names_of p messages

  abbrev es : List FullName
  es = names_of p enums

  -- a field's type is a message of the pool, an enum of it, or a scalar
  pub data IsOf (c : FieldContent) : KindType → Type 0 where
    of_type : {i : ℕ} → (m : MessageType) → (at : slice_get p.messages i ≡ Some m)
        → c.type_name ≡ Some (46 ∷ m.full_name)
        → type_at W c ≡ Some (of_message (own p l tells values i m at).facts)
        → IsOf c (types.message i)
    of_values : {i : ℕ} → (e : EnumType) → slice_get p.enums i ≡ Some e → (told : EnumTold p l e)
        → type_at W c ≡ Some (of_enum told.content) → IsOf c (types.enumeration i)
    of_scalar : {k : KindType} → HoldsScalar c k → IsOf c k

  module _ (c : FieldContent) where
    is_of : (k : KindType) → Sorted ms es c k → IsOf c k
    is_of k (a_scalar h) = of_scalar h
    is_of _ (a_message {i} w) =
        let m = message_at p c.type_name i w in
        let o = own p l tells values i m.type m.at in
        of_type m.type m.at m.written
        (type_is p l c m.type.full_name (of_message o.facts) m.written o.declared)
    is_of _ (an_enum {i} w) =
        let e = enum_at p c.type_name i w in
        let told = enum_told p l values i e.type e.at in
        of_values e.type e.at told
        (type_is p l c e.type.full_name (of_enum told.content) e.written told.declared)

    pub kind_is : (k : KindType) → HoldsKind ms es c k → IsOf c k
    kind_is k h = is_of k (sorted ms es c k h)

    no_type_at : c.type_name ≡ None → type_at W c ≡ None
    no_type_at e = ap (option_and_then (λ t. body_at W (undotted t))) e

    no_message : (k : KindType) → HoldsScalar c k → is_message k ≡ false
    no_message k h = each_scalar (λ j. is_message j ≡ false) refl refl refl refl refl refl
        refl refl refl refl refl refl refl refl refl h.type k h.holds

    no_enum_kind : (k : KindType) → HoldsScalar c k → is_enum k ≡ false
    no_enum_kind k h = each_scalar (λ j. is_enum j ≡ false) refl refl refl refl refl refl
        refl refl refl refl refl refl refl refl refl h.type k h.holds

    -- ---- the name of a type

    pub called_same : (w : Text) (k : KindType) → IsOf c k
        → is_type_called W w c ≡ pool.is_type_called p w k
    called_same w _ (of_type {i} m at written type) =
        ap (λ o. elim (option_and_then message_in o) as (λ _. Bool)
        [ None ↦ false | Some x ↦ bytes_eq (text_of x.name) w ]) type
        ∙ ap (λ n. bytes_eq n w) (sym (own p l tells values i m at).name)
        ∙ sym (ap (λ (x : MessageType). bytes_eq x.name w) (index_is p.messages i m no_type at))
    called_same w _ (of_values e at told type) =
        ap (λ o. elim (option_and_then message_in o) as (λ _. Bool)
        [ None ↦ false | Some x ↦ bytes_eq (text_of x.name) w ]) type
    called_same w k (of_scalar h) =
        ap (λ o. elim (option_and_then message_in o) as (λ _. Bool)
        [ None ↦ false | Some x ↦ bytes_eq (text_of x.name) w ]) (no_type_at h.unnamed)
        ∙ sym (called_none p w k (no_message k h))

    -- the name of a group's type, or else another name
    type_label : (other : Text) (k : KindType) → IsOf c k
        → elim (message_of W c) as (λ _. Text) [ None ↦ other | Some x ↦ text_of x.name ]
        ≡ print.type_name p k other
    type_label other _ (of_type {i} m at written type) =
        ap (λ o. elim (option_and_then message_in o) as (λ _. Text)
        [ None ↦ other | Some x ↦ text_of x.name ]) type
        ∙ sym (own p l tells values i m at).name
        ∙ sym (ap (λ (x : MessageType). x.name) (index_is p.messages i m no_type at))
    type_label other _ (of_values e at told type) =
        ap (λ o. elim (option_and_then message_in o) as (λ _. Text)
        [ None ↦ other | Some x ↦ text_of x.name ]) type
    type_label other k (of_scalar h) =
        ap (λ o. elim (option_and_then message_in o) as (λ _. Text)
        [ None ↦ other | Some x ↦ text_of x.name ]) (no_type_at h.unnamed)
        ∙ sym (label_none p other k (no_message k h))

    pub label_same : (group : Bool) (name : Text) (k : KindType) → IsOf c k → text_of c.name ≡ name
        → elim (cond group (message_of W c) None) as (λ _. Text)
        [ None ↦ text_of c.name | Some x ↦ text_of x.name ]
        ≡ cond group (print.type_name p k name) name
    label_same true name k h is =
        type_label (text_of c.name) k h ∙ ap (print.type_name p k) is
    label_same false name k h is = is

    -- ---- the full name of a message

    pub name_same : (k : KindType) → IsOf c k → message_name W c ≡ pool.kind_name p k
    name_same _ (of_type {i} m at written type) =
        ap (λ o. elim (option_and_then message_in o) as (λ _. Name)
        [ None ↦ [] | Some x ↦ type_name c ]) type
        ∙ ap (λ o. elim o as (λ _. Text) [ None ↦ [] | Some t ↦ undotted t ]) written
        ∙ sym (ap (λ (x : MessageType). x.full_name) (index_is p.messages i m no_type at))
    name_same _ (of_values e at told type) =
        ap (λ o. elim (option_and_then message_in o) as (λ _. Name)
        [ None ↦ [] | Some x ↦ type_name c ]) type
    name_same k (of_scalar h) =
        ap (λ o. elim (option_and_then message_in o) as (λ _. Name)
        [ None ↦ [] | Some x ↦ type_name c ]) (no_type_at h.unnamed)
        ∙ sym (name_none p k (no_message k h))

    -- ---- the values of an enum

    pub number_same : (w : Text) (k : KindType) → IsOf c k
        → value_number w (values_of (type_at W c)) ≡ pool.number_in p k w
    number_same w _ (of_type m at written type) = ap (λ o. value_number w (values_of o)) type
    number_same w _ (of_values {i} e at told type) =
        ap (λ o. value_number w (values_of o)) type
        ∙ sym (number_found w told.content.value e.values told.values)
        ∙ sym (ap (λ (x : EnumType). option_map (λ (v : ValueType). v.number)
        (find (λ (v : ValueType). bytes_eq v.name w) x.values)) (index_is p.enums i e no_enum at))
    number_same w k (of_scalar h) =
        ap (λ o. value_number w (values_of o)) (no_type_at h.unnamed)
        ∙ sym (number_none p w k (no_enum_kind k h))

    pub value_same : (z : ℤ) (k : KindType) → IsOf c k
        → name_of_value z (values_of (type_at W c)) ≡ pool.name_in p k z
    value_same z _ (of_type m at written type) = ap (λ o. name_of_value z (values_of o)) type
    value_same z _ (of_values {i} e at told type) =
        ap (λ o. name_of_value z (values_of o)) type
        ∙ sym (name_found z told.content.value e.values told.values)
        ∙ sym (ap (λ (x : EnumType). option_map (λ (v : ValueType). v.name)
        (find (λ (v : ValueType). int_eq v.number z) x.values)) (index_is p.enums i e no_enum at))
    value_same z k (of_scalar h) =
        ap (λ o. name_of_value z (values_of o)) (no_type_at h.unnamed)
        ∙ sym (value_none p z k (no_enum_kind k h))

    -- ---- strings and bytes

    named_scalar : (z : ℤ) (t : Text) → c.type_name ≡ Some t
        → is_number z (view.scalar_type c.field_type c.type_name) ≡ false
    named_scalar z t e = ap (λ o. is_number z (view.scalar_type c.field_type o)) e

    abbrev IsNumber : (KindType → Bool) → ℤ → KindType → Type 0
    IsNumber test z k = is_number z (view.scalar_type c.field_type c.type_name) ≡ test k

    scalar_number : (z : ℤ) (k : KindType) (h : HoldsScalar c k)
        → is_number z (view.scalar_type c.field_type c.type_name)
        ≡ is_number z (Some (type_number h.type))
    scalar_number z k h = ap (λ o. is_number z (view.scalar_type c.field_type o)) h.unnamed
        ∙ ap (is_number z) h.number

    pub string_same : (k : KindType) → Sorted ms es c k → IsNumber is_string (pos 9) k
    string_same k (a_scalar h) = scalar_number (pos 9) k h ∙ sym (string_number h.type k h.holds)
    string_same _ (a_message w) = named_scalar (pos 9) (46 ∷ w.full) w.written
    string_same _ (an_enum w) = named_scalar (pos 9) (46 ∷ w.full) w.written

    pub bytes_same : (k : KindType) → Sorted ms es c k → IsNumber is_bytes (pos 12) k
    bytes_same k (a_scalar h) = scalar_number (pos 12) k h ∙ sym (bytes_number h.type k h.holds)
    bytes_same _ (a_message w) = named_scalar (pos 12) (46 ∷ w.full) w.written
    bytes_same _ (an_enum w) = named_scalar (pos 12) (46 ∷ w.full) w.written
