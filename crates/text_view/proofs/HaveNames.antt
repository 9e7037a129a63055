-- Names that are spelled as in sources are found by texts, and can be spelled by them.
use Rattle.std.proofs.Common.{◌≡◌, ◌<◌, ◌==◌, ◌&&◌, ℕ, ℤ, Bool, true, false, cond, [], ◌∷◌, length, Option, Some, None, option_map, unwrap_or, refl, sym, ap, ◌∙◌, subst}
use Rattle.std.proofs.lemmas.Bool.{and_parts}
use Rattle.std.specs.Prelude.{bytes_eq}
use Rattle.std.specs.List.{filter, find}
use Rattle.std.specs.Option.{option_and_then}
use Rattle.std.specs.Ordering.{int_eq}
use Rattle.std.proofs.lemmas.Slice.Eq.{bytes_eq-Decides}
use Rattle.std.proofs.lemmas.Bool.Decides.{Decides-int_eq}
use Rattle.protox_lex.specs.Class.{Text}
use Rattle.protobuf_model.specs.Bytes.{is_declared}
use Rattle.protobuf_model.specs.Types.{Name, Field, Key, keyed}
use Rattle.protobuf_model.specs.Values.{Message}
use Rattle.reflect_tables.specs.Types.{PoolType, FieldType, KindType, ValueType, ExtensionType, enum_at, type_at, extension_at, no_extension, type_of_field}
use Rattle.reflect_tables.specs.Types as types
use Rattle.reflect_pool.specs.Parts.{no_value, type_of_value}
use Rattle.reflect_scalar.proofs.First.{Tells, find_place}
use Rattle.reflect_message.specs.Known.{if_held, known_field, known_extension}
use Rattle.reflect_print.specs.Named.{label_of}
use Rattle.text_model.specs.Identifiers.{AreIdentifiers, HaveIdentifiers, is_full_name, is_identifier}
use Rattle.text_model.specs.Printed.{parts}
use Rattle.text_model.specs.Schemas.{AreNames, Finds, HaveNames, IsEntryType}
use Rattle.message_view.specs.Sound.{IsSound}
use Rattle.message_view.specs.Types.{either_field, entry_part, field_at, field_of, key_of, oneof_at, part_of, place_in, values_of}
use Rattle.message_view.proofs.Fields.{held_is}
use Rattle.text_view.specs.Names.{entry_name, extension_called, kind_at, kind_name, name_in, names_of, number_in, printed_name, value_kind}
use Rattle.text_view.specs.Schemas.{schema_of}
use Rattle.text_view.specs.SourceNames.{HasSourceNames}
use Rattle.text_view.proofs.Apart.{only_one}
use Rattle.text_view.proofs.Puts.{is_number, number_is}
use Rattle.text_view.proofs.EntryTypes.{entry_type, map_label}
use Rattle.text_view.proofs.Numbered.{listed, numbered_once}
use Rattle.text_view.proofs.Places.{FieldPlace, ExtensionPlace, extension_place, field_place, group_label, label_called, plain_label}

value_called : (w : Text) → Tells (λ (v : ValueType). v.name ≡ w) (λ v. bytes_eq v.name w)
value_called w = record { says = λ v e. (bytes_eq-Decides v.name w).0 e; passes = λ v e. (bytes_eq-Decides v.name w).1 e }

value_numbered : (z : ℤ) → Tells (λ (v : ValueType). v.number ≡ z) (λ v. int_eq v.number z)
value_numbered z = record { says = λ v e. (Decides-int_eq v.number z).0 e; passes = λ v e. (Decides-int_eq v.number z).1 e }

-- an extension of the message that has the full name
abbrev IsCalled : ℕ → Text → ExtensionType → Type 0
IsCalled i w x = (x.extendee ≡ i) × (x.field.full_name ≡ w)

extension_told : (i : ℕ) (w : Text) → Tells (IsCalled i w) (λ (x : ExtensionType). (x.extendee == i) && bytes_eq x.field.full_name w)
extension_told i w = record {
  says = λ x e. let two = and_parts (x.extendee == i) (bytes_eq x.field.full_name w) e in (is_number x.extendee i two.0, (bytes_eq-Decides x.field.full_name w).0 two.1);
  passes = λ x h. ap (λ b. b && bytes_eq x.field.full_name w) (number_is x.extendee i h.0) ∙ (bytes_eq-Decides x.field.full_name w).1 h.1;
}

module _ (pool : PoolType) (sound : IsSound pool) (spelled : HasSourceNames pool) where
  -- the place of the enum's value that is printed under a number
  abbrev ValuePlace : ℕ → ℤ → Text → Type 0
  ValuePlace k z w = (p : ℕ) × (p < length (enum_at pool k).values) × ((type_of_value pool k p).number ≡ z) × ((type_of_value pool k p).name ≡ w)

  value_place : (k : ℕ) (z : ℤ) (w : Text) → name_in pool (types.enumeration k) z ≡ Some w → ValuePlace k z w
  value_place k z w e = by (find (λ v. int_eq v.number z) (enum_at pool k).values) refl where
    by : (o : Option ValueType) → find (λ v. int_eq v.number z) (enum_at pool k).values ≡ o → ValuePlace k z w
    by None is = absurd (cc (sym (ap (option_map (λ (v : ValueType). v.name)) is) ∙ e))
    by (Some v) is =
        let at = find_place (λ (v : ValueType). v.number ≡ z) (λ v. int_eq v.number z) (value_numbered z) (enum_at pool k).values v is in
        let there : type_of_value pool k at.0 ≡ v = ap (λ o. unwrap_or o v) (sym (at.2 no_value) ∙ is) in
        (at.0, at.1.0, at.1.1.0 no_value, ap (λ (v : ValueType). v.name) there ∙ ap (λ o. unwrap_or o v.name) (sym (ap (option_map (λ (v : ValueType). v.name)) is) ∙ e))

  -- the name of a value finds its number
  value_found : (k : KindType) (z : ℤ) (w : Text) → name_in pool k z ≡ Some w → number_in pool k w ≡ Some z
  value_found (types.enumeration k) z w e =
      let at = value_place k z w e in
      ap (option_map (λ (v : ValueType). v.number))
      (only_one (λ (v : ValueType). v.name ≡ w) (λ v. bytes_eq v.name w) (value_called w) (enum_at pool k).values no_value at.0 at.1 at.3
      (λ j lt h. spelled.distinct.values k j at.0 lt at.1 (h ∙ sym at.3)))
      ∙ ap Some at.2
  value_found k z w e = absurd (cc e)

  value_spelled : (k : KindType) (z : ℤ) (w : Text) → name_in pool k z ≡ Some w → is_identifier w ≡ true
  value_spelled (types.enumeration k) z w e = let at = value_place k z w e in subst (λ n. is_identifier n ≡ true) at.3 (spelled.values k at.0 at.1)
  value_spelled k z w e = absurd (cc e)

  -- an extension is found by its full name
  extension_found : (i n : ℕ) (g : FieldType) → ExtensionPlace pool i n g → extension_called pool i g.full_name ≡ Some g
  extension_found i n g at =
      let x = extension_at pool at.place in
      let named : x.field.full_name ≡ g.full_name = ap (λ (f : FieldType). f.full_name) at.field in
      ap (option_and_then (λ (x : ExtensionType). if_held pool x.field))
      (only_one (IsCalled i g.full_name) (λ x. (x.extendee == i) && bytes_eq x.field.full_name g.full_name) (extension_told i g.full_name) pool.extensions no_extension at.place at.there (at.extendee, named)
      (λ j lt h. spelled.distinct.extensions j at.place lt at.there (h.1 ∙ sym named)))
      ∙ ap (if_held pool) at.field ∙ at.held

  module _ (i : ℕ) where
    -- what stands under a number is found by the name that it is printed under, which a text can spell
    abbrev IsNamedWell : ℕ → Option Field → Type 0
    IsNamedWell n o = (f : Field) → o ≡ Some f → Finds (names_of pool i) n f
        × (cond f.extension (is_full_name (parts ((names_of pool i).name n))) (is_identifier ((names_of pool i).name n)) ≡ true)

    abbrev Named : ℕ → Text → Bool → Type 0
    Named n w x = (cond x ((names_of pool i).extension w) ((names_of pool i).field w) ≡ Some n)
        × (cond x (is_full_name (parts w)) (is_identifier w) ≡ true)

    label_spelled : (n : ℕ) (g : FieldType) → FieldPlace pool i n g → is_identifier (label_of pool g) ≡ true
    label_spelled n g at = subst (λ f. is_identifier (label_of pool f) ≡ true) at.field (by (type_of_field pool i at.place).group refl) where
      by : (b : Bool) → (type_of_field pool i at.place).group ≡ b → is_identifier (label_of pool (type_of_field pool i at.place)) ≡ true
      by false plain = ap is_identifier (plain_label pool (type_of_field pool i at.place) plain) ∙ spelled.fields i at.place at.there
      by true group =
          let its = spelled.groups i at.place at.there group in
          ap is_identifier (group_label pool (type_of_field pool i at.place) its.place group its.kind) ∙ its.spelled

    field_named : (n : ℕ) (g : FieldType) → FieldPlace pool i n g → Named n (label_of pool g) false
    field_named n g at = (ap (option_map (λ (f : FieldType). f.number)) (label_called pool spelled i n g at) ∙ ap Some at.number, label_spelled n g at)

    extension_named : (n : ℕ) (g : FieldType) → ExtensionPlace pool i n g → Named n g.full_name true
    extension_named n g at = (
      ap (option_map (λ (f : FieldType). f.number)) (extension_found i n g at) ∙ ap Some at.number,
      subst (λ (f : FieldType). is_full_name (parts f.full_name) ≡ true) at.field (spelled.extensions at.place at.there),
    )

    named_well : (n : ℕ) → IsNamedWell n (field_at pool i n)
    named_well n f e = by (known_field pool i n) refl (known_extension pool i n) refl where
      to : (w : Text) (x : Bool) → (names_of pool i).name n ≡ w → f.extension ≡ x → Named n w x
          → Finds (names_of pool i) n f × (cond f.extension (is_full_name (parts ((names_of pool i).name n))) (is_identifier ((names_of pool i).name n)) ≡ true)
      to w x same is named = subst (λ w. Named n w f.extension) (sym same) (subst (Named n w) (sym is) named)

      by : (a : Option FieldType) → known_field pool i n ≡ a → (b : Option FieldType) → known_extension pool i n ≡ b
          → Finds (names_of pool i) n f × (cond f.extension (is_full_name (parts ((names_of pool i).name n))) (is_identifier ((names_of pool i).name n)) ≡ true)
      by (Some g) is b also =
          to (label_of pool g) false (ap (λ o. printed_name pool o (known_extension pool i n)) is)
          (ap (λ (o : Option Field). elim o [ None ↦ false | Some x ↦ x.extension ]) (sym (sym (ap (λ o. either_field pool i o (known_extension pool i n)) is) ∙ e)))
          (field_named n g (field_place pool i n g is))
      by None is (Some g) also =
          to g.full_name true (ap (λ o. printed_name pool o (known_extension pool i n)) is ∙ ap (printed_name pool None) also)
          (ap (λ (o : Option Field). elim o [ None ↦ true | Some x ↦ x.extension ]) (sym (sym (ap (λ o. either_field pool i o (known_extension pool i n)) is ∙ ap (either_field pool i None) also) ∙ e)))
          (extension_named n g (extension_place pool i n g also))
      by None is None also = absurd (cc (sym (ap (λ o. either_field pool i o (known_extension pool i n)) is ∙ ap (either_field pool i None) also) ∙ e))

    -- values of enums
    enum_found : (n : ℕ) (z : ℤ) (w : Text) → (names_of pool i).enum_name n z ≡ Some w → (names_of pool i).enum_number n w ≡ Some z
    enum_found n z w e = by (kind_at pool i n) e where
      by : (o : Option KindType) → option_and_then (λ k. name_in pool k z) o ≡ Some w → option_and_then (λ k. number_in pool k w) o ≡ Some z
      by None h = absurd (cc h)
      by (Some k) h = value_found k z w h

    enum_spelled : (n : ℕ) (z : ℤ) (w : Text) → (names_of pool i).enum_name n z ≡ Some w → is_identifier w ≡ true
    enum_spelled n z w e = by (kind_at pool i n) e where
      by : (o : Option KindType) → option_and_then (λ k. name_in pool k z) o ≡ Some w → is_identifier w ≡ true
      by None h = absurd (cc h)
      by (Some k) h = value_spelled k z w h

    -- each declared field once
    declared_once : (n : ℕ) → filter (λ q. q == n) (names_of pool i).declared ≡ cond (is_declared (field_at pool i n)) (n ∷ []) []
    declared_once n = numbered_once pool n (type_at pool i).fields (λ j k. sound.apart.fields i j k) ∙ by (known_field pool i n) refl (known_extension pool i n) refl where
      by : (a : Option FieldType) → known_field pool i n ≡ a → (b : Option FieldType) → known_extension pool i n ≡ b → listed pool n (known_field pool i n) ≡ cond (is_declared (field_at pool i n)) (n ∷ []) []
      by (Some g) is b also = ap (listed pool n) is ∙ sym (ap (λ o. cond (is_declared (either_field pool i o (known_extension pool i n))) (n ∷ []) []) is)
      by None is (Some g) also = ap (listed pool n) is ∙ sym (ap (λ o. cond (is_declared (either_field pool i o (known_extension pool i n))) (n ∷ []) []) is ∙ ap (λ o. cond (is_declared (either_field pool i None o)) (n ∷ []) []) also)
      by None is None also = ap (listed pool n) is ∙ sym (ap (λ o. cond (is_declared (either_field pool i o (known_extension pool i n))) (n ∷ []) []) is ∙ ap (λ o. cond (is_declared (either_field pool i None o)) (n ∷ []) []) also)

    names_there : AreNames (field_at pool i) (names_of pool i)
    names_there = record { fields = λ n f e. (named_well n f e).0; enums = enum_found; declared = declared_once }

    identifiers_there : AreIdentifiers (field_at pool i) (names_of pool i)
    identifiers_there = record { fields = λ n f e. (named_well n f e).1; enums = enum_spelled }

  -- the entries of maps
  module _ (decoded : Name → Text → Option Message) (i n : ℕ) (f : Field) (key : Key) (is_map : f.label ≡ keyed key) where
    abbrev IsEntryThere : Type 0
    IsEntryThere = IsEntryType (schema_of pool decoded) ((names_of pool i).entry n) key f.part ((names_of pool i).enum_name n)

    of_field : (g : FieldType) (o : Option ℕ) (x : Bool) → f ≡ field_of pool o x g → if_held pool g ≡ Some g
        → (names_of pool i).entry n ≡ kind_name pool g.kind → kind_at pool i n ≡ Some (values_of pool g).kind → IsEntryThere
    of_field g o x same held entry kind =
        let w = schema_of pool decoded in
        let t = kind_name pool g.kind in
        let m = map_label pool g key (ap (λ (f : Field). f.label) (sym same) ∙ is_map) in
        let type = entry_type pool sound g (held_is pool g g held).0 m.0 spelled value_found decoded in
        let enum = ap (λ o. λ z. option_and_then (λ k. name_in pool k z) o) kind ∙ ap (λ b. λ z. name_in pool (cond b (entry_part pool g 2) g).kind z) m.0 in
        subst (λ u. IsEntryType (schema_of pool decoded) u key f.part ((names_of pool i).enum_name n)) (sym entry)
        (subst (λ k. IsEntryType (schema_of pool decoded) (kind_name pool g.kind) k f.part ((names_of pool i).enum_name n)) m.1
        (subst (λ p. IsEntryType (schema_of pool decoded) (kind_name pool g.kind) (key_of pool (entry_part pool g 1)) p ((names_of pool i).enum_name n)) (sym (ap (λ (f : Field). f.part) same))
        (subst (λ h. IsEntryType (schema_of pool decoded) (kind_name pool g.kind) (key_of pool (entry_part pool g 1)) (part_of pool (values_of pool g)) h) (sym enum) type)))

    entries_there : field_at pool i n ≡ Some f → IsEntryThere
    entries_there e = by (known_field pool i n) refl (known_extension pool i n) refl where
      field_is : (o : Option Field) → field_at pool i n ≡ o → (g : Field) → o ≡ Some g → f ≡ g
      field_is o there g is = ap (λ x. unwrap_or x f) (sym e ∙ there ∙ is)

      by : (a : Option FieldType) → known_field pool i n ≡ a → (b : Option FieldType) → known_extension pool i n ≡ b → IsEntryThere
      by (Some g) is b also =
          let at = field_place pool i n g is in
          of_field g (oneof_at pool i g) false (field_is _ (ap (λ o. either_field pool i o (known_extension pool i n)) is) _ refl) at.held
          (ap (λ o. entry_name pool o (known_extension pool i n)) is) (ap (λ o. value_kind pool o (known_extension pool i n)) is)
      by None is (Some g) also =
          let at = extension_place pool i n g also in
          of_field g None true (field_is _ (ap (λ o. either_field pool i o (known_extension pool i n)) is ∙ ap (either_field pool i None) also) _ refl) at.held
          (ap (λ o. entry_name pool o (known_extension pool i n)) is ∙ ap (entry_name pool None) also) (ap (λ o. value_kind pool o (known_extension pool i n)) is ∙ ap (value_kind pool None) also)
      by None is None also = absurd (cc (sym (ap (λ o. either_field pool i o (known_extension pool i n)) is ∙ ap (either_field pool i None) also) ∙ e))

pub have_names : (pool : PoolType) → IsSound pool → HasSourceNames pool → (decoded : Name → Text → Option Message) → HaveNames (schema_of pool decoded)
have_names pool sound spelled decoded = record {
  each = λ t. names_there pool sound spelled (place_in pool.messages t);
  entries = λ t n f key e is_map. entries_there pool sound spelled decoded (place_in pool.messages t) n f key is_map e;
}

pub have_identifiers : (pool : PoolType) → IsSound pool → HasSourceNames pool → (decoded : Name → Text → Option Message) → HaveIdentifiers (schema_of pool decoded)
have_identifiers pool sound spelled decoded t = identifiers_there pool sound spelled (place_in pool.messages t)
