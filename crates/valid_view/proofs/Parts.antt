-- The entry that a message of a type of entries gives to a map: each part is what its field holds, or the field's default.
use Rattle.std.proofs.Common.{◌≡◌, ℕ, ◌==◌, ◌&&◌, not, Bool, true, false, cond, Option, None, Some, refl, sym, ap, ◌∙◌, subst}
use Rattle.reflect_tables.specs.Types.{FieldType, PoolType, type_at, type_of_field}
use Rattle.reflect_tables.specs.declared.stored.StoredEntry.{StoredEntry}
use Rattle.reflect_pool.specs.Shapes.{holds_list, holds_map, is_entry, is_repeated}
use Rattle.reflect_entries.specs.Entries.{value_at}
use Rattle.reflect_scalar.specs.Keys.{key_view}
use Rattle.reflect_extend.specs.Gives.{Entry, GivesPair, IsSetOrDefault, left_under}
use Rattle.reflect_message.specs.Bytes.{form_of, is_set}
use Rattle.reflect_message.specs.Defaults.{IsDefault, IsDefaultOne}
use Rattle.reflect_message.specs.Held.{fields_of}
use Rattle.reflect_message.specs.Known.{numbered_field}
use Rattle.reflect_message.specs.MapKeys.{key_of_value}
use Rattle.reflect_message.specs.Names.{DynamicMessage, Value}
use Rattle.reflect_message.specs.Shown.{IsHeldOrDefault}
use Rattle.reflect_message.specs.Singles as singles
use Rattle.message_view.specs.Sound.{IsPartAt, IsSound}
use Rattle.set_view.proofs.Given.{part_found, value_of_pair}
use Rattle.set_view.proofs.Parts.{key_of_pair, key_seen}

-- ---- a field of one value is no map and no list
pub one_no_map : (pool : PoolType) (f : FieldType) → is_repeated f.cardinality ≡ false → holds_map pool f ≡ false
one_no_map pool f once = ap (λ b. is_entry pool f.kind && (b && not f.group)) once ∙ never (is_entry pool f.kind) where
  never : (b : Bool) → (b && false) ≡ false
  never true = refl
  never false = refl

one_no_list : (pool : PoolType) (f : FieldType) → is_repeated f.cardinality ≡ false → holds_list pool f ≡ false
one_no_list pool f once = ap (λ b. b && not (holds_map pool f)) once

-- ---- what a message of such a type gives
module _ (m : DynamicMessage) (sound : IsSound m.descriptor.pool.now) (s : StoredEntry) (is : (type_at m.descriptor.pool.now m.descriptor.index).entry ≡ Some s) where
  abbrev pool : PoolType
  pool = m.descriptor.pool.now

  abbrev i : ℕ
  i = m.descriptor.index

  -- what holds of what stands under a field's number, and of the field's default, holds of what it gives
  module _ (n : ℕ) (g : FieldType) (number : g.number ≡ n) (once : is_repeated g.cardinality ≡ false) (R : Value → Type 0)
      (held : (u : Value) → value_at (fields_of m) n ≡ Some u → R u) (default : (v : Value) → IsDefaultOne m.descriptor.pool.now g v → R v) where
    default_gives : (v : Value) → IsDefault m.descriptor.pool.now g v → R v
    default_gives v h = default v (h.2 (one_no_list m.descriptor.pool.now g once) (one_no_map m.descriptor.pool.now g once))

    part_gives : (o : Option Value) → ((u : Value) → o ≡ Some u → R u) → (v : Value) → IsSetOrDefault m.descriptor.pool.now g o v → R v
    part_gives None each v h = default_gives v h
    part_gives (Some u) each v h = by (is_set m.descriptor.pool.now g (form_of u)) h where
      by : (b : Bool) → IsHeldOrDefault m.descriptor.pool.now g (cond b (Some u) None) v → R v
      by true same = subst R (sym same) (each u refl)
      by false h = default_gives v h

    here : (u : Value) → value_at (fields_of m) g.number ≡ Some u → R u
    here u at = held u (ap (value_at (fields_of m)) (sym number) ∙ at)

    -- also once something is taken out
    left_here : (b : Bool) (u : Value) → cond b None (value_at (fields_of m) g.number) ≡ Some u → R u
    left_here true u at = absurd (cc at)
    left_here false u at = here u at

  key_part : IsPartAt m.descriptor.pool.now m.descriptor.index 1 s.key
  key_part = (sound.parts m.descriptor.index s is).0

  value_part : IsPartAt m.descriptor.pool.now m.descriptor.index 2 s.value
  value_part = (sound.parts m.descriptor.index s is).1

  -- the parts as the map has them
  module _ (first second : FieldType) (one : numbered_field m.descriptor.pool.now m.descriptor.index 1 ≡ Some first) (two : numbered_field m.descriptor.pool.now m.descriptor.index 2 ≡ Some second) where
    the_key : type_of_field pool i s.key ≡ first
    the_key = part_found pool sound.apart i 1 s.key key_part first one

    the_value : type_of_field pool i s.value ≡ second
    the_value = part_found pool sound.apart i 2 s.value value_part second two

    pub first_once : is_repeated first.cardinality ≡ false
    first_once = subst (λ (g : FieldType). is_repeated g.cardinality ≡ false) the_key key_part.one

    pub second_once : is_repeated second.cardinality ≡ false
    second_once = subst (λ (g : FieldType). is_repeated g.cardinality ≡ false) the_value value_part.one

    abbrev Pair : Entry → Type 0
    Pair e = GivesPair m.descriptor.pool.now (type_of_field m.descriptor.pool.now m.descriptor.index s.key) (type_of_field m.descriptor.pool.now m.descriptor.index s.value) (fields_of m) (Some e)

    pub pair_key : (R : Value → Type 0) → ((u : Value) → value_at (fields_of m) 1 ≡ Some u → R u) → ((v : Value) → IsDefaultOne pool first v → R v) → (e : Entry) → Pair e → (key : Value) × R key × (singles.single key ≡ Some (key_view e.0))
    pair_key R held default e (key, value, of_key, of_value, given) =
        let number : first.number ≡ 1 = subst (λ (g : FieldType). g.number ≡ 1) the_key key_part.number in
        let gives = subst (λ (g : FieldType). IsSetOrDefault pool g (value_at (fields_of m) g.number) key) the_key of_key in (
          key,
          part_gives 1 first number first_once R held default (value_at (fields_of m) first.number) (here 1 first number first_once R held default) key gives,
          key_seen key e.0 (key_of_pair (key_of_value key) value e given),
        )

    pub pair_value : (R : Value → Type 0) → ((u : Value) → value_at (fields_of m) 2 ≡ Some u → R u) → ((v : Value) → IsDefaultOne pool second v → R v) → (e : Entry) → Pair e → R e.1
    pair_value R held default e (key, value, of_key, of_value, given) =
        let taken = (type_of_field pool i s.key).number in
        let number : second.number ≡ 2 = subst (λ (g : FieldType). g.number ≡ 2) the_value value_part.number in
        let gives = subst (λ (g : FieldType). IsSetOrDefault pool g (left_under taken (fields_of m) g.number) value) the_value of_value in
        subst R (value_of_pair (key_of_value key) value e given)
        (part_gives 2 second number second_once R held default (left_under taken (fields_of m) second.number) (left_here 2 second number second_once R held default (second.number == taken)) value gives)
