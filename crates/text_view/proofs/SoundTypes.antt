-- The types of a sound pool are sound types of a schema.
use Rattle.std.proofs.Common.{◌≡◌, not, ℕ, ℤ, Bool, true, false, cond, List, [], ◌∷◌, zero, suc, Option, Some, None, option_map, unwrap_or, refl, sym, ap, ◌∙◌, subst, FitsSigned, codes}
use Rattle.std.proofs.lemmas.Bool.{and_parts}
use Rattle.std.specs.Int.{w32}
use Rattle.std.specs.List.{AllByRecursion, find}
use Rattle.std.specs.Option.{option_and_then}
use Rattle.std.specs.Prelude.{slice_index_or, bytes_eq}
use Rattle.protox_lex.specs.Class.{Text}
use Rattle.protobuf_model.specs.Types.{Name, Scalar, string, bytes, scalar, Part, Field, Key, keyed}
use Rattle.protobuf_model.specs.Values.{Message}
use Rattle.reflect_tables.specs.Types.{PoolType, FieldType, KindType, ValueType, no_enum, enum_at, type_at}
use Rattle.reflect_tables.specs.Types as types
use Rattle.reflect_pool.specs.Shapes.{holds_list, holds_map}
use Rattle.reflect_message.specs.Known.{is_float, if_held, known_field, known_extension, numbered_field}
use Rattle.text_model.specs.Plain.{AreBytes}
use Rattle.text_model.specs.Schemas.{HoldsOne, key_part}
use Rattle.text_laws.specs.SoundTypes.{HasSoundTypes, HaveSmallDefaults, HoldsScalar}
use Rattle.message_view.specs.Sound.{HasNumbers, IsFieldNumber, IsSound}
use Rattle.message_view.specs.Types.{either_field, entry_part, field_at, field_of, key_of, kind_in, oneof_at, part_of, place_in, types_of}
use Rattle.message_view.proofs.Defaults.{have_defaults}
use Rattle.message_view.proofs.Fields.{held_is}
use Rattle.text_view.specs.Names.{entry_name, kind_at, kind_name, names_of, number_in}
use Rattle.text_view.specs.Schemas.{is_any_at, is_bytes, is_lone, is_string, schema_of}
use Rattle.text_view.proofs.Adds.{not_so}
use Rattle.text_view.proofs.Entries.{whole_field}
use Rattle.text_view.specs.SourceNames.{HasSourceNames}
use Rattle.text_view.proofs.EntryTypes.{defaults_small, map_label, part_holds, parts_named}
use Rattle.text_view.proofs.Places.{extension_place, field_place}

found_has : {X : Type 0} (P : X → Type 0) (test : X → Bool) (xs : List X) (x : X) → AllByRecursion P xs → find test xs ≡ Some x → P x
found_has P test [] x all e = absurd (cc e)
found_has P test (y ∷ ys) x all e = by (test y) refl (found_has P test ys x all.1) where
  by : (b : Bool) → test y ≡ b → (find test ys ≡ Some x → P x) → P x
  by true is later = subst P (ap (λ o. unwrap_or o y) (sym (ap (λ b. cond b (Some y) (find test ys)) is) ∙ e)) all.0
  by false is later = later (sym (ap (λ b. cond b (Some y) (find test ys)) is) ∙ e)

at_place : {X : Type 0} (P : X → Type 0) (xs : List X) (i : ℕ) (d : X) → AllByRecursion P xs → P d → P (slice_index_or xs i d)
at_place P [] i d all p = p
at_place P (x ∷ xs) zero d all p = all.0
at_place P (x ∷ xs) (suc i) d all p = at_place P xs i d all.1 p

module _ (pool : PoolType) (sound : IsSound pool) where
  -- the number that a name finds
  enum_fits : (k : KindType) (v : Text) (z : ℤ) → number_in pool k v ≡ Some z → FitsSigned w32 z
  enum_fits (types.enumeration c) v z e = by (find (λ x. bytes_eq x.name v) (enum_at pool c).values) refl where
    by : (o : Option ValueType) → find (λ x. bytes_eq x.name v) (enum_at pool c).values ≡ o → FitsSigned w32 z
    by None is = absurd (cc (sym (ap (option_map (λ (x : ValueType). x.number)) is) ∙ e))
    by (Some x) is =
        let fits = found_has (λ (x : ValueType). FitsSigned w32 x.number) (λ x. bytes_eq x.name v) (enum_at pool c).values x (at_place HasNumbers pool.enums c no_enum sound.values tt) is in
        subst (FitsSigned w32) (ap (λ o. unwrap_or o x.number) (sym (ap (option_map (λ (x : ValueType). x.number)) is) ∙ e)) fits
  enum_fits k v z e = absurd (cc e)

  -- a field of one value of a scalar kind
  lone_holds : (i n : ℕ) (test : KindType → Bool) (k : Scalar) → ((g : Bool) (t : KindType) → test t ≡ true → (kind_in pool g t ≡ scalar k) × (is_float t ≡ false))
      → is_lone pool i test (numbered_field pool i n) ≡ true → HoldsScalar k (field_at pool i n)
  lone_holds i n test k is_kind e = by (numbered_field pool i n) refl e where
    by : (o : Option FieldType) → numbered_field pool i n ≡ o → is_lone pool i test o ≡ true → HoldsScalar k (field_at pool i n)
    by None is h = absurd (cc h)
    by (Some f) is h =
        let first = and_parts (test f.kind) _ h in
        let second = and_parts (not (holds_list pool f)) _ first.1 in
        let third = and_parts (not (holds_map pool f)) _ second.1 in
        let kind = is_kind f.group f.kind first.0 in
        let no_map = not_so (holds_map pool f) third.0 in
        let known = ap (option_and_then (if_held pool)) is ∙ whole_field pool f kind.1 no_map in
        (part_of pool f, kind.0, part_holds pool i n f known no_map (not_so (holds_list pool f) second.0))

  string_kind : (g : Bool) (t : KindType) → is_string t ≡ true → (kind_in pool g t ≡ scalar string) × (is_float t ≡ false)
  string_kind g types.string e = (refl, refl)
  string_kind g t e = absurd (cc e)

  bytes_kind : (g : Bool) (t : KindType) → is_bytes t ≡ true → (kind_in pool g t ≡ scalar bytes) × (is_float t ≡ false)
  bytes_kind g types.bytes e = (refl, refl)
  bytes_kind g t e = absurd (cc e)

  any_holds : (i : ℕ) → is_any_at pool i ≡ true → HoldsScalar string (field_at pool i 1) × HoldsScalar bytes (field_at pool i 2)
  any_holds i e =
      let parts = and_parts (bytes_eq (type_at pool i).full_name (codes "google.protobuf.Any")) _ e in
      let two = and_parts (is_lone pool i is_string (numbered_field pool i 1)) _ parts.1 in
      (lone_holds i 1 is_string string string_kind two.0, lone_holds i 2 is_bytes bytes bytes_kind two.1)

  module _ (i n : ℕ) (f : Field) (e : field_at pool i n ≡ Some f) where
    field_is : (o : Option Field) → field_at pool i n ≡ o → (g : Field) → o ≡ Some g → f ≡ g
    field_is o there g is = ap (λ x. unwrap_or x f) (sym e ∙ there ∙ is)

    -- what stands under a number, as a field or as an extension of the pool
    abbrev Stands : Type 0
    Stands = (g : FieldType) × (o : Option ℕ) × (x : Bool) × (f ≡ field_of pool o x g) × (if_held pool g ≡ Some g)
        × ((names_of pool i).entry n ≡ kind_name pool g.kind) × IsFieldNumber n

    stands : Stands
    stands = by (known_field pool i n) refl (known_extension pool i n) refl where
      by : (a : Option FieldType) → known_field pool i n ≡ a → (b : Option FieldType) → known_extension pool i n ≡ b → Stands
      by (Some g) is b also =
          let at = field_place pool i n g is in (
            g,
            oneof_at pool i g,
            false,
            field_is _ (ap (λ o. either_field pool i o (known_extension pool i n)) is) _ refl,
            at.held,
            ap (λ o. entry_name pool o (known_extension pool i n)) is,
            subst IsFieldNumber (ap (λ (g : FieldType). g.number) at.field ∙ at.number) (sound.numbers.fields i at.place at.there),
          )
      by None is (Some g) also =
          let at = extension_place pool i n g also in (
            g,
            None,
            true,
            field_is _ (ap (λ o. either_field pool i o (known_extension pool i n)) is ∙ ap (either_field pool i None) also) _ refl,
            at.held,
            ap (λ o. entry_name pool o (known_extension pool i n)) is ∙ ap (entry_name pool None) also,
            subst IsFieldNumber (ap (λ (g : FieldType). g.number) at.field ∙ at.number) (sound.numbers.extensions at.place at.there),
          )
      by None is None also = absurd (cc (sym (ap (λ o. either_field pool i o (known_extension pool i n)) is ∙ ap (either_field pool i None) also) ∙ e))

    defaults_hold : HasSourceNames pool → (key : Key) → f.label ≡ keyed key → AreBytes key.default × AreBytes f.part.default
    defaults_hold named key is_map =
        let same = stands.3 in
        let m = map_label pool stands.0 key (ap (λ (f : Field). f.label) (sym same) ∙ is_map) in
        let small = defaults_small pool sound stands.0 (held_is pool stands.0 stands.0 stands.4).0 m.0 named in (
          subst (λ (k : Key). AreBytes k.default) m.1 small.0,
          subst (λ (p : Part). AreBytes p.default) (ap (λ b. part_of pool (cond b (entry_part pool stands.0 2) stands.0)) (sym m.0) ∙ sym (ap (λ (f : Field). f.part) same)) small.1,
        )

    entries_hold : (key : Key) → f.label ≡ keyed key
        → HoldsOne (key_part key) (field_at pool (place_in pool.messages ((names_of pool i).entry n)) 1) × HoldsOne f.part (field_at pool (place_in pool.messages ((names_of pool i).entry n)) 2)
    entries_hold key is_map =
        let g = stands.0 in
        let same = stands.3 in
        let m = map_label pool stands.0 key (ap (λ (f : Field). f.label) (sym same) ∙ is_map) in
        let parts = subst (λ t. HoldsOne (key_part (key_of pool (entry_part pool stands.0 1))) (field_at pool (place_in pool.messages t) 1) × HoldsOne (part_of pool (entry_part pool stands.0 2)) (field_at pool (place_in pool.messages t) 2)) (sym stands.5)
        (parts_named pool sound stands.0 (held_is pool stands.0 stands.0 stands.4).0 m.0) in (
          subst (λ k. HoldsOne (key_part k) (field_at pool (place_in pool.messages ((names_of pool i).entry n)) 1)) m.1 parts.0,
          subst (λ p. HoldsOne p (field_at pool (place_in pool.messages ((names_of pool i).entry n)) 2))
              (ap (λ b. part_of pool (cond b (entry_part pool stands.0 2) stands.0)) (sym m.0) ∙ sym (ap (λ (f : Field). f.part) same)) parts.1,
        )

pub sound_types : (pool : PoolType) → IsSound pool → (decoded : Name → Text → Option Message) → HasSoundTypes (schema_of pool decoded)
sound_types pool sound decoded = record {
  defaults = have_defaults pool sound.keys sound.defaults;
  numbers = λ t n f e. (stands pool sound (place_in pool.messages t) n f e).6;
  enums = λ t n v z e. fits (kind_at pool (place_in pool.messages t) n) v z e;
  entries = λ t n f key e is_map. entries_hold pool sound (place_in pool.messages t) n f e key is_map;
  any = λ t e. any_holds pool sound (place_in pool.messages t) e;
} where
  fits : (o : Option KindType) (v : Text) (z : ℤ) → option_and_then (λ k. number_in pool k v) o ≡ Some z → FitsSigned w32 z
  fits None v z e = absurd (cc e)
  fits (Some k) v z e = enum_fits pool sound k v z e

pub small_defaults : (pool : PoolType) → IsSound pool → HasSourceNames pool → HaveSmallDefaults (types_of pool)
small_defaults pool sound named t n f key e is_map = defaults_hold pool sound (place_in pool.messages t) n f e named key is_map
