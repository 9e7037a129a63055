-- Records that a type accepts are accepted by the type of its name in another pool that says the same to texts, whatever
-- bytes spell them.
use Rattle.std.proofs.Common.{◌≡◌, ◌<◌, ◌∙◌, ◌==◌, ℕ, zero, suc, Bool, true, false, cond, List, length, Option, None, Some, refl, sym, ap, subst}
use Rattle.std.proofs.lemmas.Option.{same_Some}
use Rattle.std.specs.List.{AllByRecursion}
use Rattle.std.specs.Option.{option_or}
use Rattle.message_view.specs.Sound.{IsSound}
use Rattle.message_view.specs.Types.{either_field, entry_part, field_at, field_of, key_of, kind_in, label_of, name_at, oneof_at, part_of, values_of}
use Rattle.message_view.proofs.Entries.{entry_of_map, key_scalar, part_is}
use Rattle.message_view.proofs.Elements.{kind_scalar}
use Rattle.message_view.proofs.Fields.{extension_whole, known, known_extension_is, owned_whole}
use Rattle.message_view.proofs.Sound.{named}
use Rattle.protobuf_model.specs.Types.{Field, Key, Part, scalar}
use Rattle.reflect_decode.specs.Accepts.{Acceptable, AcceptsAs, AcceptsEntry, AcceptsField, AcceptsIf, AcceptsMessage, AcceptsOne, AcceptsRecord, declared_at}
use Rattle.reflect_decode.specs.Keeps.{payloads}
use Rattle.reflect_decode.proofs.Sorts.{no_float_values, not_float}
use Rattle.reflect_format.specs.declared.target.Target.TheVariants as targets
use Rattle.reflect_message.specs.KindTypes.{IsScalarType}
use Rattle.reflect_message.specs.Known.{entry_field, holds_floats, is_float, known_extension, known_field, numbered_field}
use Rattle.reflect_message.proofs.Known.{numbered}
use Rattle.reflect_pool.specs.Shapes.{holds_list, holds_map}
use Rattle.reflect_pool.specs.declared.message.MessageDescriptor.{MessageDescriptor}
use Rattle.reflect_pool.proofs.Grown.{all_through}
use Rattle.reflect_pool.proofs.Places.{at_place}
use Rattle.reflect_scalar.proofs.First.{find_place}
use Rattle.reflect_tables.specs.Types.{ArePooled, FieldType, IsWithin, KindType, MessageWithin, PoolType, counts_of, no_field, no_type, type_at, type_of_field}
use Rattle.reflect_tables.specs.Types as types
use Rattle.reflect_wire.specs.Records.{Payload}
use Rattle.text_view.proofs.Adds.{label_keyed}
use Rattle.text_view.proofs.Entries.{scalar_whole}
use Rattle.stored_options.proofs.TwinFields.{lists_alike, maps_alike, one_key, within}
use Rattle.stored_options.proofs.TwinKinds.{AcceptsBelow, element_too, kind_too, message_too}
use Rattle.stored_options.proofs.TwinPools.{AreTwinPools, types_same}

-- ---- types that are there

-- that of a field that is found by its number
field_near : (pool : PoolType) → ArePooled pool → (i n : ℕ) (g : FieldType) → i < length pool.messages → numbered_field pool i n ≡ Some g → IsWithin (counts_of pool) g.kind
field_near pool pooled i n g near found =
    let own = at_place (MessageWithin (counts_of pool)) pool.messages i no_type pooled.messages near in
    let place = find_place (λ (f : FieldType). f.number ≡ n) (λ f. f.number == n) (numbered n) (type_at pool i).fields g found in
    let same : type_of_field pool i place.0 ≡ g = same_Some (type_of_field pool i place.0) g (sym (place.2 no_field) ∙ found) in
    subst (λ (f : FieldType). IsWithin (counts_of pool) f.kind) same
    (at_place (λ (f : FieldType). IsWithin (counts_of pool) f.kind) (type_at pool i).fields place.0 no_field own.fields place.1.0)

-- that of a part of a map's entries
entry_near : (pool : PoolType) → ArePooled pool → (t : KindType) → IsWithin (counts_of pool) t → (n : ℕ) (g : FieldType) → entry_field pool t n ≡ Some g → IsWithin (counts_of pool) g.kind
entry_near pool pooled (types.message i) near n g found = field_near pool pooled i n g near found
entry_near pool pooled t near n g found = absurd (cc found)

-- ---- fields that are one in the model

module _ (d e : MessageDescriptor) (twins : AreTwinPools d.pool.now e.pool.now) (coded : Acceptable) (levels : ℕ) (below : AcceptsBelow coded) where
  abbrev p : PoolType
  p = d.pool.now

  abbrev q : PoolType
  q = e.pool.now

  one_too : (f g : FieldType) → kind_in p f.group f.kind ≡ kind_in q g.group g.kind → is_float f.kind ≡ false → is_float g.kind ≡ false → IsWithin (counts_of p) f.kind
      → (x : Payload) → AcceptsOne coded q g x → AcceptsOne coded p f x
  one_too f g same whole whole_too near x accepts = kind_too d e twins coded below f.group g.group f.kind g.kind same whole whole_too near x accepts.0 accepts.1 accepts.2

  module _ (f g : FieldType) (label : label_of p f ≡ label_of q g) (part : part_of p (values_of p f) ≡ part_of q (values_of q g)) (whole : holds_floats p f ≡ false) (whole_too : holds_floats q g ≡ false)
      (near : IsWithin (counts_of p) f.kind) (x : Payload) where
    -- what is no map
    module _ (no_map : holds_map p f ≡ false) (no_map_too : holds_map q g ≡ false) where
      kinds_same : kind_in p f.group f.kind ≡ kind_in q g.group g.kind
      kinds_same =
          sym (ap (λ b. (part_of p (cond b (entry_part p f 2) f)).kind) no_map)
          ∙ ap (λ (y : Part). y.kind) part
          ∙ ap (λ b. (part_of q (cond b (entry_part q g 2) g)).kind) no_map_too

      plain_too : (list : Bool) → AcceptsAs levels coded q g false list x → AcceptsAs levels coded p f false list x
      plain_too true accepts = element_too d e twins coded below f.group g.group f.kind g.kind kinds_same (not_float p f whole) (not_float q g whole_too) near x accepts.0 accepts.1 accepts.2
      plain_too false accepts = one_too f g kinds_same (not_float p f whole) (not_float q g whole_too) near x accepts

    -- a map
    module _ (is_map : holds_map p f ≡ true) (is_map_too : holds_map q g ≡ true) where
      keys_same : key_of p (entry_part p f 1) ≡ key_of q (entry_part q g 1)
      keys_same = one_key (key_of p (entry_part p f 1)) (key_of q (entry_part q g 1)) (sym (label_keyed p f is_map) ∙ label ∙ label_keyed q g is_map_too)

      values_same : part_of p (entry_part p f 2) ≡ part_of q (entry_part q g 2)
      values_same =
          sym (ap (λ b. part_of p (cond b (entry_part p f 2) f)) is_map) ∙ part
          ∙ ap (λ b. part_of q (cond b (entry_part q g 2) g)) is_map_too

      entry_too : AcceptsEntry levels coded q g.kind x → AcceptsEntry levels coded p f.kind x
      entry_too (keys, values, rs, at_one, at_two, body, deep, first, second) =
          let there = twins.sound.entries f.kind (entry_of_map p f is_map) in
          let own : FieldType = there.0 in
          let held : FieldType = there.1 in
          let type : IsScalarType own.kind = key_scalar own.kind (twins.sound.keys f.kind own (entry_of_map p f is_map) there.2).0 in
          let type_too : IsScalarType keys.kind = key_scalar keys.kind (twins.also.keys g.kind keys (entry_of_map q g is_map_too) at_one).0 in
          let key : key_of p own ≡ key_of q keys = sym (ap (key_of p) (part_is p f 1 own there.2)) ∙ keys_same ∙ ap (key_of q) (part_is q g 1 keys at_one) in
          let value : part_of p held ≡ part_of q values = sym (ap (part_of p) (part_is p f 2 held there.3)) ∙ values_same ∙ ap (part_of q) (part_is q g 2 values at_two) in
          let key_kinds : kind_in p own.group own.kind ≡ kind_in q keys.group keys.kind =
          kind_scalar p own.group own.kind type ∙ ap (λ (k : Key). scalar k.kind) key ∙ sym (kind_scalar q keys.group keys.kind type_too) in
          let value_kinds : kind_in p held.group held.kind ≡ kind_in q values.group values.kind = ap (λ (y : Part). y.kind) value in
          let no_float : is_float held.kind ≡ false = no_float_values p f held whole is_map there.3 in
          let no_float_too : is_float values.kind ≡ false = no_float_values q g values whole_too is_map_too at_two in
          let one : (y : Payload) → AcceptsOne coded q keys y → AcceptsOne coded p own y =
          one_too own keys key_kinds (scalar_whole own.kind type) (scalar_whole keys.kind type_too) (entry_near p twins.sound.pooled f.kind near 1 own there.2) in
          let other : (y : Payload) → AcceptsOne coded q values y → AcceptsOne coded p held y =
          one_too held values value_kinds no_float no_float_too (entry_near p twins.sound.pooled f.kind near 2 held there.3) in (
            own,
            held,
            rs,
            there.2,
            there.3,
            body,
            λ message. deep (message_too p q held.group values.group held.kind values.kind value_kinds no_float no_float_too message),
            all_through (AcceptsOne coded q keys) (AcceptsOne coded p own) (payloads 1 rs) one first,
            all_through (AcceptsOne coded q values) (AcceptsOne coded p held) (payloads 2 rs) other second,
          )

    as_too : (m : Bool) → holds_map p f ≡ m → (list : Bool) → AcceptsAs levels coded q g m list x → AcceptsAs levels coded p f m list x
    as_too true is list accepts = entry_too is (sym (maps_alike p q f g label) ∙ is) accepts
    as_too false is list accepts = plain_too is (sym (maps_alike p q f g label) ∙ is) list accepts

    field_too : AcceptsField levels coded q g x → AcceptsField levels coded p f x
    field_too accepts =
        let moved : AcceptsAs levels coded q g (holds_map p f) (holds_list p f) x =
        subst (λ m. AcceptsAs levels coded q g m (holds_list p f) x) (sym (maps_alike p q f g label))
        (subst (λ list. AcceptsAs levels coded q g (holds_map q g) list x) (sym (lists_alike p q f g label)) accepts) in
        as_too (holds_map p f) refl (holds_list p f) moved

-- ---- what has a number

-- the field or extension of a number is this one of the model
record Stands (pool : PoolType) (i n : ℕ) (m : Field) : Type 0 where
  pub own : FieldType
  pub at : declared_at pool i n ≡ Some own
  pub part : part_of pool (values_of pool own) ≡ m.part
  pub label : label_of pool own ≡ m.label
  pub whole : holds_floats pool own ≡ false
  pub near : IsWithin (counts_of pool) own.kind

module _ (d : MessageDescriptor) (sound : IsSound d.pool.now) (n : ℕ) where
  abbrev pool : PoolType
  pool = d.pool.now

  stands : (m : Field) → field_at d.pool.now d.index n ≡ Some m → Stands d.pool.now d.index n m
  stands m is = by (known_field pool d.index n) refl (known_extension pool d.index n) refl is where
    by : (f : Option FieldType) → known_field pool d.index n ≡ f → (x : Option FieldType) → known_extension pool d.index n ≡ x → either_field pool d.index f x ≡ Some m → Stands d.pool.now d.index n m
    by (Some g) at x also e =
        let h = known d n g at in
        let same : field_of pool (oneof_at pool d.index g) false g ≡ m = same_Some (field_of pool (oneof_at pool d.index g) false g) m e in
        record {
          own = g;
          at = ap (λ o. option_or o (known_extension pool d.index n)) at;
          part = ap (λ (y : Field). y.part) same;
          label = ap (λ (y : Field). y.label) same;
          whole = subst (λ t. holds_floats pool t ≡ false) h.2 (owned_whole d h.0 h.1);
          near = subst (λ (t : FieldType). IsWithin (counts_of pool) t.kind) h.2 (within d sound (targets.Field h.0) h.1);
        }
    by None none (Some g) at e =
        let h = known_extension_is d n g at in
        let same : field_of pool None true g ≡ m = same_Some (field_of pool None true g) m e in
        record {
          own = g;
          at = ap (λ o. option_or o (known_extension pool d.index n)) none ∙ at;
          part = ap (λ (y : Field). y.part) same;
          label = ap (λ (y : Field). y.label) same;
          whole = subst (λ t. holds_floats pool t ≡ false) h.2 (extension_whole d h.0 h.1);
          near = subst (λ (t : FieldType). IsWithin (counts_of pool) t.kind) h.2 (within d sound (targets.Extension h.0) h.1);
        }
    by None none None also e = absurd (cc e)

  none_stands : field_at d.pool.now d.index n ≡ None → declared_at d.pool.now d.index n ≡ None
  none_stands is = by (known_field pool d.index n) refl (known_extension pool d.index n) refl is where
    by : (f : Option FieldType) → known_field pool d.index n ≡ f → (x : Option FieldType) → known_extension pool d.index n ≡ x → either_field pool d.index f x ≡ None → declared_at d.pool.now d.index n ≡ None
    by (Some g) at x also e = absurd (cc e)
    by None none (Some g) at e = absurd (cc e)
    by None none None also e = ap (λ o. option_or o (known_extension pool d.index n)) none ∙ also

-- ---- the records of a message

module _ (d e : MessageDescriptor) (twins : AreTwinPools d.pool.now e.pool.now) (names : name_at d.pool.now d.index ≡ name_at e.pool.now e.index) (coded : Acceptable) (levels : ℕ) (below : AcceptsBelow coded) where
  same_field : (n : ℕ) → field_at d.pool.now d.index n ≡ field_at e.pool.now e.index n
  same_field n =
      sym (named d.pool.now twins.sound.names d.index n d.in_range)
      ∙ (λ i. types_same d.pool.now e.pool.now twins i (names i) n)
      ∙ named e.pool.now twins.also.names e.index n e.in_range

  record_too : (r : ℕ × Payload) → AcceptsRecord levels coded e.pool.now e.index r → AcceptsRecord levels coded d.pool.now d.index r
  record_too r accepts = by (field_at d.pool.now d.index r.0) refl where
    by : (m : Option Field) → field_at d.pool.now d.index r.0 ≡ m → AcceptsRecord levels coded d.pool.now d.index r
    by None is = subst (λ o. AcceptsIf levels coded d.pool.now o r.1) (sym (none_stands d twins.sound r.0 is)) tt
    by (Some m) is =
        let a = stands d twins.sound r.0 m is in
        let b = stands e twins.also r.0 m (sym (same_field r.0) ∙ is) in
        subst (λ o. AcceptsIf levels coded d.pool.now o r.1) (sym a.at)
        (field_too d e twins coded levels below a.own b.own (a.label ∙ sym b.label) (a.part ∙ sym b.part) a.whole b.whole a.near r.1
        (subst (λ o. AcceptsIf levels coded e.pool.now o r.1) b.at accepts))

  records_too : (rs : List (ℕ × Payload)) → AllByRecursion (AcceptsRecord levels coded e.pool.now e.index) rs → AllByRecursion (AcceptsRecord levels coded d.pool.now d.index) rs
  records_too rs all = all_through (AcceptsRecord levels coded e.pool.now e.index) (AcceptsRecord levels coded d.pool.now d.index) rs record_too all

all_below : (levels : ℕ) → AcceptsBelow (AcceptsMessage levels)
all_below zero grouped c f twins names x h = absurd h
all_below (suc levels) grouped c f twins names x (rs, inside, all) = (rs, inside, records_too c f twins names (AcceptsMessage levels) levels (all_below levels) rs all)

pub accepted_too : (levels : ℕ) (d e : MessageDescriptor) → AreTwinPools d.pool.now e.pool.now → name_at d.pool.now d.index ≡ name_at e.pool.now e.index → (rs : List (ℕ × Payload))
    → AllByRecursion (AcceptsRecord levels (AcceptsMessage levels) e.pool.now e.index) rs → AllByRecursion (AcceptsRecord levels (AcceptsMessage levels) d.pool.now d.index) rs
accepted_too levels d e twins names rs all = records_too d e twins names (AcceptsMessage levels) levels (all_below levels) rs all
