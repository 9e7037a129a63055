-- The entry that a message in shape gives to a map.
use Rattle.std.proofs.Common.{◌≡◌, ℕ, suc, ◌==◌, ◌&&◌, ◌||◌, not, Bool, true, false, cond, Option, None, Some, option_map, unwrap_or, refl, sym, ap, ◌∙◌, subst, arith}
use Rattle.std.specs.Option.{option_and_then}
use Rattle.reflect_entries.specs.Entries.{value_at}
use Rattle.reflect_extend.specs.Gives.{Entry, GivesAs, GivesIn, GivesPair, IsSetOrDefault, left_under}
use Rattle.reflect_message.specs.Bytes.{form_of, is_set}
use Rattle.reflect_message.specs.Contents.{content_of, nothing}
use Rattle.reflect_message.specs.Defaults.{IsDefaultOne}
use Rattle.reflect_message.specs.Held.{fields_of}
use Rattle.reflect_message.specs.KindTypes.{IsMessageType, IsScalarType}
use Rattle.reflect_message.specs.Known.{entry_field, has_floats, if_held, is_float, numbered_field}
use Rattle.reflect_message.specs.MapKeys.{key_of_value}
use Rattle.reflect_message.specs.Names.{DynamicMessage, Value}
use Rattle.reflect_message.specs.Shown.{IsHeldOrDefault}
use Rattle.reflect_pool.specs.FieldsLeft.{field_type}
use Rattle.reflect_pool.specs.Shapes.{holds_list, holds_map, is_entry, is_repeated}
use Rattle.reflect_pool.specs.declared.message.MessageDescriptor.{MessageDescriptor}
use Rattle.reflect_scalar.proofs.First.{Tells, find_place}
use Rattle.reflect_scalar.specs.declared.map_key.MapKey.{MapKey}
use Rattle.reflect_tables.specs.Types.{FieldType, KindType, PoolType, no_field, type_at, type_of_field}
use Rattle.reflect_tables.specs.Types as types
use Rattle.reflect_tables.specs.declared.stored.StoredEntry.{StoredEntry}
use Rattle.message_view.specs.Shaped.{FitsShaped, FitsAs, FitsOne, HasShape, IsShaped}
use Rattle.message_view.specs.Sound.{AreApart, IsPartAt, IsSound}
use Rattle.message_view.proofs.Changed.{nothing_shaped}
use Rattle.message_view.proofs.Deeper.{one_level}
use Rattle.message_view.proofs.Entries.{some_default}
use Rattle.message_view.proofs.Fields.{known}
use Rattle.set_view.specs.Given.{GivesFitting}

-- ---- kinds
no_scalar : (t : KindType) → is_float t ≡ true → IsScalarType t → ⊥
no_scalar types.double e h = h
no_scalar types.float e h = h
no_scalar t e h = absurd (cc e)

no_message : (t : KindType) → is_float t ≡ true → IsMessageType t → ⊥
no_message (types.message i) e h = absurd (cc e)
no_message t e h = h

-- a kind whose messages have a field is that of a message
entry_type : (pool : PoolType) (t : KindType) (n : ℕ) (f : FieldType) → entry_field pool t n ≡ Some f → IsMessageType t
entry_type pool (types.message i) n f e = tt
entry_type pool t n f e = absurd (cc e)

has_number : (n : ℕ) → Tells (λ (f : FieldType). f.number ≡ n) (λ f. f.number == n)
has_number n = record { says = λ f e. grind (arith, e); passes = λ f e. grind (arith, e) }

-- ---- a field of one value
module _ (pool : PoolType) (f : FieldType) (one : is_repeated f.cardinality ≡ false) where
  pub no_map : holds_map pool f ≡ false
  no_map = ap (λ b. is_entry pool f.kind && (b && not f.group)) one ∙ never (is_entry pool f.kind) where
    never : (b : Bool) → (b && false) ≡ false
    never true = refl
    never false = refl

  pub no_list : holds_list pool f ≡ false
  no_list = ap (λ b. b && not (holds_map pool f)) one

  -- it is held, where its values are no floating-point numbers
  pub if_whole : is_float f.kind ≡ false → if_held pool f ≡ Some f
  if_whole whole =
      ap (λ b. cond (b || (holds_map pool f && has_floats pool f.kind)) None (Some f)) whole
      ∙ ap (λ b. cond (b && has_floats pool f.kind) None (Some f)) no_map

module _ (inner : DynamicMessage → Type 0) (pool : PoolType) (f : FieldType) where
  float_fits : (v : Value) → is_float f.kind ≡ true → FitsOne inner pool f v
  float_fits v floats = record { plain = λ type. absurd (no_scalar f.kind floats type); nested = λ type. absurd (no_message f.kind floats type) }

  module _ (one : is_repeated f.cardinality ≡ false) where
    fits_one : (v : Value) → FitsShaped inner pool f v → FitsOne inner pool f v
    fits_one v h = subst (λ b. FitsAs inner pool f false b v) (no_list pool f one) (subst (λ b. FitsAs inner pool f b (holds_list pool f) v) (no_map pool f one) h)

    -- what it gives to an entry: what it holds, or its default
    module _ (blank : (m : DynamicMessage) → content_of m ≡ nothing → inner m) where
      default_fits : (v : Value) → IsDefaultOne pool f v → FitsOne inner pool f v
      default_fits v h = record {
        plain = λ type. let w = some_default pool f type in (w.0, h.0 type ∙ w.1);
        nested = λ type. let m = h.1 type in (m.0, m.1, m.2.0, blank m.0 m.2.1);
      }

      part_fits : (o : Option Value) → ((u : Value) → o ≡ Some u → FitsOne inner pool f u) → (v : Value) → IsSetOrDefault pool f o v → FitsOne inner pool f v
      part_fits None each v h = default_fits v (h.2 (no_list pool f one) (no_map pool f one))
      part_fits (Some u) each v h = by (is_set pool f (form_of u)) h where
        by : (b : Bool) → IsHeldOrDefault pool f (cond b (Some u) None) v → FitsOne inner pool f v
        by true k = subst (FitsOne inner pool f) (sym k) (each u refl)
        by false k = default_fits v (k.2 (no_list pool f one) (no_map pool f one))

-- ---- the entry of a message
-- no other field has the number of a part
pub part_found : (pool : PoolType) → AreApart pool → (i n place : ℕ) → IsPartAt pool i n place → (g : FieldType) → numbered_field pool i n ≡ Some g → type_of_field pool i place ≡ g
part_found pool apart i n place part g there =
    let first = find_place (λ (g : FieldType). g.number ≡ n) (λ g. g.number == n) (has_number n) (type_at pool i).fields g there in
    let number : (type_of_field pool i first.0).number ≡ n = first.1.1.0 no_field in
    let same : first.0 ≡ place = apart.fields i first.0 place first.1.0 part.there (number ∙ sym part.number) in
    sym (ap (type_of_field pool i) same) ∙ ap (λ o. unwrap_or o g) (sym (first.2 no_field) ∙ there)

pub value_of_pair : (o : Option MapKey) (value : Value) (e : Entry) → Some e ≡ option_map (λ k. (k, value)) o → value ≡ e.1
value_of_pair None value e is = absurd (cc is)
value_of_pair (Some k) value e is = ap (λ (p : Option Entry). elim p [ None ↦ value | Some q ↦ q.1 ]) (sym is)

module _ (inner : DynamicMessage → Type 0) (blank : (m : DynamicMessage) → content_of m ≡ nothing → inner m) (m : DynamicMessage) (sound : IsSound m.descriptor.pool.now)
    (shape : IsShaped inner m.descriptor (content_of m)) (s : StoredEntry) (is : (type_at m.descriptor.pool.now m.descriptor.index).entry ≡ Some s) where
  abbrev d : MessageDescriptor
  d = m.descriptor

  abbrev its_key : FieldType
  its_key = type_of_field m.descriptor.pool.now m.descriptor.index s.key

  abbrev its_value : FieldType
  its_value = type_of_field m.descriptor.pool.now m.descriptor.index s.value

  key_part : IsPartAt d.pool.now d.index 1 s.key
  key_part = (sound.parts d.index s is).0

  value_part : IsPartAt d.pool.now d.index 2 s.value
  value_part = (sound.parts d.index s is).1

  abbrev type_of : ℕ → FieldType
  type_of place = type_of_field m.descriptor.pool.now m.descriptor.index place

  -- what the message holds under the number of a part suits the part
  pub held_fits : (n place : ℕ) → IsPartAt d.pool.now d.index n place → numbered_field d.pool.now d.index n ≡ Some (type_of place)
      → (u : Value) → value_at (fields_of m) n ≡ Some u → FitsOne inner d.pool.now (type_of place) u
  held_fits n place part there u at = by (is_float (type_of place).kind) refl where
    by : (b : Bool) → is_float (type_of place).kind ≡ b → FitsOne inner d.pool.now (type_of place) u
    by true floats = float_fits inner d.pool.now (type_of place) u floats
    by false whole =
        let g = known d n (type_of place) (ap (option_and_then (if_held d.pool.now)) there ∙ if_whole d.pool.now (type_of place) part.one whole) in
        let number : (field_type g.0).number ≡ n = ap (λ (t : FieldType). t.number) g.2 ∙ g.3 in
        let fits = shape.fields g.0 g.1 u (ap (value_at (fields_of m)) number ∙ at) in
        fits_one inner d.pool.now (type_of place) part.one u (subst (λ (t : FieldType). FitsShaped inner d.pool.now t u) g.2 fits)

  -- without its key it holds the same value
  pub value_left : left_under its_key.number (fields_of m) its_value.number ≡ value_at (fields_of m) 2
  value_left = ap (left_under its_key.number (fields_of m)) value_part.number ∙ ap (λ n. left_under n (fields_of m) 2) key_part.number

  pair_fits : numbered_field d.pool.now d.index 2 ≡ Some its_value → (e : Entry) → GivesPair d.pool.now its_key its_value (fields_of m) (Some e) → FitsOne inner d.pool.now its_value e.1
  pair_fits there e (key, value, of_key, of_value, given) =
      subst (FitsOne inner d.pool.now its_value) (value_of_pair (key_of_value key) value e given)
      (part_fits inner d.pool.now its_value value_part.one blank (value_at (fields_of m) 2) (held_fits 2 s.value value_part there) value (subst (λ o. IsSetOrDefault d.pool.now its_value o value) value_left of_value))

-- a message of the entries' type
module _ (exclusive : Bool) (levels : ℕ) (pool : PoolType) (sound : IsSound pool) (f : FieldType) (v : Value) (fits : FitsOne (HasShape exclusive (suc (suc levels))) pool f v) where
  abbrev inside : DynamicMessage → Type 0
  inside = HasShape exclusive (suc levels)

  pub given_fits : GivesFitting inside pool f v
  given_fits e gives values there =
      let entry = fits.nested (entry_type pool f.kind 2 values there) in
      by entry.0 entry.2.0 entry.2.1 entry.3 (type_at entry.0.descriptor.pool.now entry.0.descriptor.index).entry refl (subst (λ o. GivesIn o (Some e)) entry.1 gives) where
        by : (m : DynamicMessage) → m.descriptor.pool.now ≡ pool → f.kind ≡ types.message m.descriptor.index → HasShape exclusive (suc (suc levels)) m
            → (o : Option StoredEntry) → (type_at m.descriptor.pool.now m.descriptor.index).entry ≡ o → GivesAs m.descriptor.pool.now m.descriptor.index o (fields_of m) (Some e)
            → FitsOne inside pool values e.1
        by m its_pool its_kind shape None is h = absurd (cc h)
        by m its_pool its_kind shape (Some s) is h =
            let found : numbered_field m.descriptor.pool.now m.descriptor.index 2 ≡ Some values =
            ap (λ p. numbered_field p m.descriptor.index 2) its_pool ∙ sym (ap (λ t. entry_field pool t 2) its_kind) ∙ there in
            let its_sound = subst IsSound (sym its_pool) sound in
            let same = part_found m.descriptor.pool.now its_sound.apart m.descriptor.index 2 s.value (its_sound.parts m.descriptor.index s is).1 values found in
            subst (λ p. FitsOne inside p values e.1) its_pool
            (subst (λ (t : FieldType). FitsOne inside m.descriptor.pool.now t e.1) same
            (pair_fits inside (nothing_shaped exclusive levels) m its_sound (one_level exclusive (suc levels) m shape) s is (found ∙ ap Some (sym same)) e h))
