-- The types of entries of maps: what they hold, and the names that sources give to their parts.
use Rattle.std.proofs.Common.{◌≡◌, ◌<◌, ℕ, ℤ, zero, suc, Bool, true, false, cond, List, [], ◌∷◌, length, codes, is_some, Option, Some, None, option_map, refl, sym, ap, ◌∙◌, subst, arith}
use Rattle.std.specs.Prelude.{slice_index_or}
use Rattle.std.specs.Option.{option_and_then, option_or}
use Rattle.protox_lex.specs.Class.{Text}
use Rattle.protobuf_model.specs.Types.{Name, Key, Part, one, keyed, rival}
use Rattle.protobuf_model.specs.Types as kinds
use Rattle.protobuf_model.specs.Values.{text, Message}
use Rattle.reflect_tables.specs.Types.{PoolType, FieldType, KindType, MessageType, no_type, type_at, type_of_field}
use Rattle.reflect_tables.specs.Types as types
use Rattle.reflect_tables.specs.declared.stored.StoredEntry.{StoredEntry}
use Rattle.reflect_pool.specs.Shapes.{is_entry, is_repeated, holds_list, holds_map}
use Rattle.reflect_decode.specs.Refused.{IsKeyKind}
use Rattle.reflect_message.specs.Known.{holds_floats, if_held, known_field, known_extension, entry_field}
use Rattle.text_model.specs.Schemas.{HoldsOne, IsEntryType, key_part}
use Rattle.reflect_scalar.specs.Defaults.{declared_in, kind_default}
use Rattle.text_model.specs.Plain.{AreBytes}
use Rattle.message_view.specs.Singles.{scalar_of, single_view}
use Rattle.message_view.specs.Sound.{IsSound}
use Rattle.message_view.specs.Types.{default_of, either_field, entry_part, field_at, key_of, label_of, oneof_at, part_of, place_in, values_of}
use Rattle.message_view.proofs.Elements.{kind_scalar}
use Rattle.message_view.proofs.Entries.{entry_of_map, key_scalar, no_float_values, part_is}
use Rattle.text_view.specs.Names.{kind_name, name_in, names_of, number_in, value_kind}
use Rattle.text_view.specs.Schemas.{schema_of}
use Rattle.text_view.specs.SourceNames.{HasSourceNames}
use Rattle.text_view.proofs.Adds.{label_one}
use Rattle.text_view.proofs.Entries.{part_found, scalar_whole, whole_field}
use Rattle.text_view.proofs.Places.{plain_called}
use Rattle.text_view.proofs.Puts.{one_part}
use Rattle.text_view.proofs.Rivals.{no_many}
use Rattle.message_view.proofs.Sound.{found_at}

-- a type that has entries is there
entry_there : (ms : List MessageType) (c : ℕ) (e : StoredEntry) → (slice_index_or ms c no_type).entry ≡ Some e → c < length ms
entry_there [] c e is = absurd (cc is)
entry_there (m ∷ ms) zero e is = omega arith
entry_there (m ∷ ms) (suc c) e is = let lt = entry_there ms c e is in omega (arith, lt)

-- a map's label, and its key
pub map_label : (pool : PoolType) (f : FieldType) (key : Key) → label_of pool f ≡ keyed key → (holds_map pool f ≡ true) × (key_of pool (entry_part pool f 1) ≡ key)
map_label pool f key e = by (holds_map pool f) refl (is_repeated f.cardinality) where
  by : (b : Bool) → holds_map pool f ≡ b → (r : Bool) → (holds_map pool f ≡ true) × (key_of pool (entry_part pool f 1) ≡ key)
  by true is r = (is, cc (sym (ap (λ b. cond b (keyed (key_of pool (entry_part pool f 1))) (cond (is_repeated f.cardinality) (kinds.many f.packed) one)) is) ∙ e))
  by false is r = absurd (other (is_repeated f.cardinality) (sym (ap (λ b. cond b (keyed (key_of pool (entry_part pool f 1))) (cond (is_repeated f.cardinality) (kinds.many f.packed) one)) is) ∙ e)) where
    other : (r : Bool) → cond r (kinds.many f.packed) one ≡ keyed key → ⊥
    other true h = cc h
    other false h = cc h

-- a kind that has entries is of a message type that says where they stand
entry_kind : (pool : PoolType) (t : KindType) → is_entry pool t ≡ true → (c : ℕ) × (t ≡ types.message c) × (e : StoredEntry) × ((type_at pool c).entry ≡ Some e)
entry_kind pool (types.message c) e = by (type_at pool c).entry refl where
  by : (o : Option StoredEntry) → (type_at pool c).entry ≡ o → (d : ℕ) × (types.message c ≡ types.message d) × (x : StoredEntry) × ((type_at pool d).entry ≡ Some x)
  by None is = absurd (cc (sym (ap is_some is) ∙ e))
  by (Some x) is = (c, refl, x, is)
entry_kind pool t e = absurd (cc e)

-- the kinds of keys are those of no enums
key_no_enum : (t : KindType) → IsKeyKind t → scalar_of t ≡ kinds.enumeration → ⊥
key_no_enum types.bytes h e = h
key_no_enum (types.message i) h e = h
key_no_enum (types.enumeration i) h e = h
key_no_enum t h e = cc e

-- without a default of its own a field has that of its kind
kind_small : (pool : PoolType) (k : KindType) → AreBytes (elim (kind_default pool k) [ None ↦ text [] | Some v ↦ single_view v ])
kind_small pool types.double = tt
kind_small pool k = tt

small_default : (pool : PoolType) (g : FieldType) → g.default ≡ None → AreBytes (default_of pool g)
small_default pool g e =
    subst (λ o. AreBytes (elim (option_or (option_and_then (declared_in pool g.kind) o) (kind_default pool g.kind)) [ None ↦ text [] | Some v ↦ single_view v ])) (sym e) (kind_small pool g.kind)

-- a field that holds one value
pub part_holds : (pool : PoolType) (i n : ℕ) (g : FieldType) → known_field pool i n ≡ Some g → holds_map pool g ≡ false → holds_list pool g ≡ false → HoldsOne (part_of pool g) (field_at pool i n)
part_holds pool i n g known no_map no_list = (
  oneof_at pool i g,
  false,
  ap (λ o. either_field pool i o (known_extension pool i n)) known
      ∙ ap (λ (p : Part). Some (record { part = p; label = label_of pool g; oneof = oneof_at pool i g; extension = false })) (one_part pool g no_map)
      ∙ ap (λ l. Some (record { part = part_of pool g; label = l; oneof = oneof_at pool i g; extension = false })) (label_one pool g no_map no_list),
)

module _ (pool : PoolType) (sound : IsSound pool) (f : FieldType) (whole : holds_floats pool f ≡ false) (is_map : holds_map pool f ≡ true) where
  its : (c : ℕ) × (f.kind ≡ types.message c) × (e : StoredEntry) × ((type_at pool c).entry ≡ Some e)
  its = entry_kind pool f.kind (entry_of_map pool f is_map)

  abbrev keys : FieldType
  keys = type_of_field pool its.0 its.2.key

  abbrev values : FieldType
  values = type_of_field pool its.0 its.2.value

  key_at : entry_field pool f.kind 1 ≡ Some keys
  key_at = ap (λ k. entry_field pool k 1) its.1 ∙ part_found pool sound.apart its.0 1 its.2.key (sound.parts its.0 its.2 its.3).0

  value_at : entry_field pool f.kind 2 ≡ Some values
  value_at = ap (λ k. entry_field pool k 2) its.1 ∙ part_found pool sound.apart its.0 2 its.2.value (sound.parts its.0 its.2 its.3).1

  key_kind : IsKeyKind keys.kind
  key_kind = (sound.keys (types.message its.0) keys (ap is_some its.3) (part_found pool sound.apart its.0 1 its.2.key (sound.parts its.0 its.2 its.3).0)).0

  key_one : (holds_map pool keys ≡ false) × (holds_list pool keys ≡ false)
  key_one = no_many pool keys (sound.parts its.0 its.2 its.3).0.one

  value_one : (holds_map pool values ≡ false) × (holds_list pool values ≡ false)
  value_one = no_many pool values (sound.parts its.0 its.2 its.3).1.one

  key_held : if_held pool keys ≡ Some keys
  key_held = whole_field pool keys (scalar_whole keys.kind (key_scalar keys.kind key_kind)) key_one.0

  value_held : if_held pool values ≡ Some values
  value_held = whole_field pool values (no_float_values pool f values whole is_map value_at) value_one.0

  key_known : known_field pool its.0 1 ≡ Some keys
  key_known = ap (option_and_then (if_held pool)) (part_found pool sound.apart its.0 1 its.2.key (sound.parts its.0 its.2 its.3).0) ∙ key_held

  value_known : known_field pool its.0 2 ≡ Some values
  value_known = ap (option_and_then (if_held pool)) (part_found pool sound.apart its.0 2 its.2.value (sound.parts its.0 its.2 its.3).1) ∙ value_held

  -- the place of the type of entries, by its name
  placed_there : place_in pool.messages (kind_name pool f.kind) ≡ its.0
  placed_there =
      let lt = entry_there pool.messages its.0 its.2 its.3 in
      ap (λ t. place_in pool.messages (kind_name pool t)) its.1 ∙ found_at pool.messages its.0 lt (λ k less e. sound.names its.0 k lt less e)

  key_is : part_of pool keys ≡ key_part (key_of pool (entry_part pool f 1))
  key_is =
      ap (λ k. record { kind = k; presence = keys.presence; default = (part_of pool keys).default }) (kind_scalar pool keys.group keys.kind (key_scalar keys.kind key_kind))
      ∙ ap (λ (g : FieldType). key_part (key_of pool g)) (sym (part_is pool f 1 keys key_at))

  abbrev pub HoldParts : ℕ → Type 0
  HoldParts p = HoldsOne (key_part (key_of pool (entry_part pool f 1))) (field_at pool p 1) × HoldsOne (part_of pool (entry_part pool f 2)) (field_at pool p 2)

  -- it has the key under 1 and the value under 2
  parts_there : HoldParts its.0
  parts_there = (
    subst (λ p. HoldsOne p (field_at pool its.0 1)) key_is (part_holds pool its.0 1 keys key_known key_one.0 key_one.1),
    subst (λ (g : FieldType). HoldsOne (part_of pool g) (field_at pool its.0 2)) (sym (part_is pool f 2 values value_at)) (part_holds pool its.0 2 values value_known value_one.0 value_one.1),
  )

  pub parts_named : HoldParts (place_in pool.messages (kind_name pool f.kind))
  parts_named = subst HoldParts (sym placed_there) parts_there

  -- the defaults of the parts that sources give hold bytes
  pub defaults_small : HasSourceNames pool → AreBytes (key_of pool (entry_part pool f 1)).default × AreBytes (part_of pool (entry_part pool f 2)).default
  defaults_small spelled =
      let names = spelled.entries its.0 its.2 its.3 in (
        subst (λ (g : FieldType). AreBytes (default_of pool g)) (sym (part_is pool f 1 keys key_at)) (small_default pool keys names.usual_key),
        subst (λ (g : FieldType). AreBytes (default_of pool g)) (sym (part_is pool f 2 values value_at)) (small_default pool values names.usual_value),
      )

  module _ (spelled : HasSourceNames pool) (found : (k : KindType) → ((z : ℤ) (v : Text) → name_in pool k z ≡ Some v → number_in pool k v ≡ Some z)) where
    enum_names : (z : ℤ) (v : Text) → name_in pool (entry_part pool f 2).kind z ≡ Some v → (names_of pool its.0).enum_number 2 v ≡ Some z
    enum_names z v h =
        ap (option_and_then (λ k. number_in pool k v)) (ap (λ o. value_kind pool o (known_extension pool its.0 2)) value_known)
        ∙ ap (λ b. number_in pool (cond b (entry_part pool values 2) values).kind v) value_one.0
        ∙ ap (λ (g : FieldType). number_in pool g.kind v) (sym (part_is pool f 2 values value_at)) ∙ found (entry_part pool f 2).kind z v h

    -- the type of entries at a place, as the model has it
    abbrev IsEntryAt : ℕ → Type 0
    IsEntryAt p = ((names_of pool p).field (codes "key") ≡ Some 1) × ((names_of pool p).field (codes "value") ≡ Some 2)
        × (rival (field_at pool p) 2 1 ≡ false)
        × ((z : ℤ) (v : Text) → name_in pool (entry_part pool f 2).kind z ≡ Some v → (names_of pool p).enum_number 2 v ≡ Some z)

    entry_at : IsEntryAt its.0
    entry_at =
        let names = spelled.entries its.0 its.2 its.3 in
        let parts = sound.parts its.0 its.2 its.3 in (
          ap (option_map (λ (g : FieldType). g.number)) (plain_called pool spelled.distinct its.0 its.2.key parts.0.there (codes "key") names.key names.plain_key key_held) ∙ ap Some parts.0.number,
          ap (option_map (λ (g : FieldType). g.number)) (plain_called pool spelled.distinct its.0 its.2.value parts.1.there (codes "value") names.value names.plain_value value_held) ∙ ap Some parts.1.number,
          names.apart,
          enum_names,
        )

    pub entry_type : (decoded : Name → Text → Option Message) → IsEntryType (schema_of pool decoded) (kind_name pool f.kind) (key_of pool (entry_part pool f 1)) (part_of pool (values_of pool f))
        (λ z. name_in pool (entry_part pool f 2).kind z)
    entry_type decoded =
        let h = subst IsEntryAt (sym placed_there) entry_at in
        record {
          key_named = h.0;
          value_named = h.1;
          holds_key = parts_named.0;
          holds_value = subst (λ p. HoldsOne p (field_at pool (place_in pool.messages (kind_name pool f.kind)) 2)) (ap (λ b. part_of pool (cond b (entry_part pool f 2) f)) (sym is_map)) parts_named.1;
          apart = h.2;
          no_enum = subst (λ (g : FieldType). scalar_of g.kind ≡ kinds.enumeration → ⊥) (sym (part_is pool f 1 keys key_at)) (key_no_enum keys.kind key_kind);
          enums = h.3;
        }
