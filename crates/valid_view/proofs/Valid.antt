-- What a value is that suits a kind, or a field: a single one, a message, a list or a map of these.
use Rattle.std.proofs.Common.{◌≡◌, ◌&&◌, not, Bool, true, false, true≢false, List, [], ◌∷◌, map, Option, None, Some, refl, sym, ap, ◌∙◌}
use Rattle.std.proofs.lemmas.Bool.{and_parts}
use Rattle.std.specs.List.{AllByRecursion, list_all}
use Rattle.reflect_pool.specs.Shapes.{holds_list, holds_map, is_repeated}
use Rattle.reflect_pool.specs.declared.message.MessageDescriptor.{MessageDescriptor}
use Rattle.reflect_tables.specs.Types.{FieldType, KindType, PoolType}
use Rattle.reflect_scalar.specs.Keys.{key_view}
use Rattle.reflect_scalar.specs.Singles as held
use Rattle.reflect_scalar.specs.declared.map_key.MapKey.{MapKey}
use Rattle.reflect_message.specs.Known.{entry_field}
use Rattle.reflect_message.specs.Lists.{list_items}
use Rattle.reflect_message.specs.Maps.{map_entries}
use Rattle.reflect_message.specs.Messages.{message_in}
use Rattle.reflect_message.specs.Singles as singles
use Rattle.reflect_message.specs.Names.{DynamicMessage, Value}
use Rattle.reflect_message.specs.declared.parts.HeldOf.TheViews.{out-ValueOf}
use Rattle.reflect_numbered.specs.Fits.{Fit, all_fit, entries_fit, entry_fits, fit_of, holds_one, is_one, list_fit, map_fit, message_fit, single_fit}
use Rattle.reflect_numbered.specs.declared.validity.Strictness.{Strictness}
use Rattle.valid_view.proofs.Opened.{Sorted, a_list, a_map, a_message, a_single, fits_in, kinds_of, sorted}

untrue : (b : Bool) → not b ≡ true → b ≡ false
untrue true e = absurd (cc e)
untrue false e = refl

-- a value suits a kind as one
pub data One (how : Strictness) (pool : PoolType) (t : KindType) (v : Value) : Type 0 where
  one_single : (w : held.Single) → singles.single v ≡ Some w → is_one t w ≡ true → One how pool t v
  one_message : (m : DynamicMessage) → message_in v ≡ Some m → kinds_of m how pool t ≡ true → One how pool t v

-- the key and the value of an entry
abbrev pub IsEntry : Strictness → PoolType → KindType → KindType → MapKey × Value → Type 0
IsEntry how pool keys values e = (is_one keys (key_view e.0) ≡ true) × One how pool values e.1

-- a value suits a field
pub data Whole (how : Strictness) (pool : PoolType) (f : FieldType) (v : Value) : Type 0 where
  whole_one : holds_map pool f ≡ false → is_repeated f.cardinality ≡ false → One how pool f.kind v → Whole how pool f v
  whole_list : holds_map pool f ≡ false → is_repeated f.cardinality ≡ true → (vs : List Value) → list_items v ≡ Some vs → AllByRecursion (One how pool f.kind) vs → Whole how pool f v
  whole_map : holds_map pool f ≡ true → (es : List (MapKey × Value)) → map_entries v ≡ Some es
      → (keys values : FieldType) → entry_field pool f.kind 1 ≡ Some keys → entry_field pool f.kind 2 ≡ Some values
      → AllByRecursion (IsEntry how pool keys.kind values.kind) es → Whole how pool f v

module _ (how : Strictness) (pool : PoolType) where
  pub one_of : (t : KindType) (v : Value) → (fit_of v).one how pool t ≡ true → One how pool t v
  one_of t v h = by (sorted v) where
    by : Sorted (out-ValueOf MessageDescriptor v) (fit_of v) → One how pool t v
    by (a_single w at is) = one_single w at (ap (λ (w : Fit). w.one how pool t) (sym is) ∙ h)
    by (a_message m at is) = one_message m at (ap (λ (w : Fit). w.one how pool t) (sym is) ∙ h)
    by (a_list vs at is) = absurd (true≢false (sym h ∙ ap (λ (w : Fit). w.one how pool t) is))
    by (a_map es at is) = absurd (true≢false (sym h ∙ ap (λ (w : Fit). w.one how pool t) is))

  all_ones : (t : KindType) (vs : List Value) → all_fit how pool t (map fit_of vs) ≡ true → AllByRecursion (One how pool t) vs
  all_ones t [] h = tt
  all_ones t (v ∷ vs) h =
      let two = and_parts ((fit_of v).one how pool t) (all_fit how pool t (map fit_of vs)) h in
      (one_of t v two.0, all_ones t vs two.1)

  all_entries : (keys values : KindType) (es : List (MapKey × Value)) → list_all (entry_fits how pool keys values) (fits_in es) ≡ true → AllByRecursion (IsEntry how pool keys values) es
  all_entries keys values [] h = tt
  all_entries keys values (e ∷ es) h =
      let two = and_parts (is_one keys (key_view e.0) && (fit_of e.1).one how pool values) (list_all (entry_fits how pool keys values) (fits_in es)) h in
      let first = and_parts (is_one keys (key_view e.0)) ((fit_of e.1).one how pool values) two.0 in
      ((first.0, one_of values e.1 first.1), all_entries keys values es two.1)

  -- which fields hold one value, and which lists
  no_repeat : (r m : Bool) → m ≡ false → (r && not m) ≡ false → r ≡ false
  no_repeat true false is e = absurd (cc e)
  no_repeat true true is e = absurd (cc is)
  no_repeat false m is e = refl

  pub no_map : (f : FieldType) → holds_list pool f ≡ true → (holds_map pool f ≡ false) × (is_repeated f.cardinality ≡ true)
  no_map f h = let two = and_parts (is_repeated f.cardinality) (not (holds_map pool f)) h in (untrue (holds_map pool f) two.1, two.0)

  of_one : (f : FieldType) (v : Value) (b : Bool) → (b ≡ true → One how pool f.kind v) → (holds_one pool f && b) ≡ true → Whole how pool f v
  of_one f v b one h =
      let two = and_parts (holds_one pool f) b h in
      let neither = and_parts (not (holds_list pool f)) (not (holds_map pool f)) two.0 in
      let map_not = untrue (holds_map pool f) neither.1 in
      whole_one map_not (no_repeat (is_repeated f.cardinality) (holds_map pool f) map_not (untrue (holds_list pool f) neither.0)) (one two.1)

  of_list : (f : FieldType) (v : Value) (vs : List Value) → list_items v ≡ Some vs → (holds_list pool f && all_fit how pool f.kind (map fit_of vs)) ≡ true → Whole how pool f v
  of_list f v vs at h =
      let two = and_parts (holds_list pool f) (all_fit how pool f.kind (map fit_of vs)) h in
      let list = no_map f two.0 in
      whole_list list.0 list.1 vs at (all_ones f.kind vs two.1)

  of_map : (f : FieldType) (v : Value) (es : List (MapKey × Value)) → map_entries v ≡ Some es → (holds_map pool f && entries_fit how pool f.kind (fits_in es)) ≡ true → Whole how pool f v
  of_map f v es at h = by (entry_field pool f.kind 1) refl (entry_field pool f.kind 2) refl two.1 where
    two : (holds_map pool f ≡ true) × (entries_fit how pool f.kind (fits_in es) ≡ true)
    two = and_parts (holds_map pool f) (entries_fit how pool f.kind (fits_in es)) h

    by : (a : Option FieldType) → entry_field pool f.kind 1 ≡ a → (b : Option FieldType) → entry_field pool f.kind 2 ≡ b
        → ◌≡◌ {A = Bool} (elim a [ None ↦ false | Some keys ↦ elim b [ None ↦ false | Some values ↦ list_all (entry_fits how pool keys.kind values.kind) (fits_in es) ] ]) true → Whole how pool f v
    by None is b also h = absurd (cc h)
    by (Some keys) is None also h = absurd (cc h)
    by (Some keys) is (Some values) also h = whole_map two.0 es at keys values is also (all_entries keys.kind values.kind es h)

  pub whole_of : (f : FieldType) (v : Value) → (fit_of v).whole how pool f ≡ true → Whole how pool f v
  whole_of f v h = by (sorted v) where
    told : (w : Fit) → fit_of v ≡ w → w.whole how pool f ≡ true
    told w is = ap (λ (w : Fit). w.whole how pool f) (sym is) ∙ h

    by : Sorted (out-ValueOf MessageDescriptor v) (fit_of v) → Whole how pool f v
    by (a_single w at is) = of_one f v (is_one f.kind w) (one_single w at) (told (single_fit w) is)
    by (a_message m at is) = of_one f v (kinds_of m how pool f.kind) (one_message m at) (told (message_fit (kinds_of m)) is)
    by (a_list vs at is) = of_list f v vs at (told (list_fit (map fit_of vs)) is)
    by (a_map es at is) = of_map f v es at (told (map_fit (fits_in es)) is)
