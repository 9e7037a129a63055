-- A message of which all suits its type, and in which of each oneof one member at most is set, stays
-- so where an entry is put into a map of it.
use Rattle.std.proofs.Common.{◌≡◌, ℕ, suc, true, false, List, [], ◌∷◌, Option, None, Some, refl, sym, subst}
use Rattle.message_view.specs.Shaped.{Exclusive, FitsAs, FitsShaped}
use Rattle.message_view.specs.Sound.{IsSound}
use Rattle.message_view.proofs.Changed.{nothing_shaped}
use Rattle.reflect_extend.specs.Puts.{PutsAll}
use Rattle.reflect_format.specs.Steps.{AddsValues, held_by}
use Rattle.reflect_format.specs.Takes.{target_pool, target_type}
use Rattle.reflect_format.specs.declared.target.Target.{Target}
use Rattle.reflect_message.specs.Contents.{content_of}
use Rattle.reflect_message.specs.Known.{holds_floats}
use Rattle.reflect_message.specs.Maps.{entries_held}
use Rattle.reflect_message.specs.Names.{DynamicMessage, Value}
use Rattle.reflect_message.specs.declared.value.ValueOf.TheVariants as held
use Rattle.reflect_pool.specs.Shapes.{holds_list, holds_map}
use Rattle.reflect_pool.specs.declared.message.MessageDescriptor.{MessageDescriptor}
use Rattle.reflect_scalar.specs.declared.map_key.MapKey.{MapKey}
use Rattle.reflect_tables.specs.Types.{FieldType, PoolType}
use Rattle.reflect_tables.specs.Types as types
use Rattle.text_view.proofs.Kept.{add_leaves, many_map}
use Rattle.text_view.proofs.MapShapes.{AllValues, entries_fit, map_after}
use Rattle.text_view.proofs.Owned.{OwnsTarget, pool_is, target_whole}
use Rattle.text_view.proofs.Shaped.{IsShapely, shape_kept, shapely, target_number}
use Rattle.text_view.proofs.Steady.{stays}
use Rattle.stored_options.proofs.Shapes.{added_unknown, ascends, before, shaped_so, stood}

-- ---- a map and the type of its entries

module _ (d : MessageDescriptor) (sound : IsSound d.pool.now) (t : Target) (owns : OwnsTarget d t) (is_map : holds_map d.pool.now (target_type t) ≡ true) where
  pub target_map : holds_map (target_pool t) (target_type t) ≡ true
  target_map = subst (λ p. holds_map p (target_type t) ≡ true) (sym (pool_is d sound.apart t owns)) is_map

  module _ (c : MessageDescriptor) (at : c.pool.now ≡ d.pool.now) where
    pub entry_sound : IsSound c.pool.now
    entry_sound = subst IsSound (sym at) sound

    pub entry_map : holds_map c.pool.now (target_type t) ≡ true
    entry_map = subst (λ p. holds_map p (target_type t) ≡ true) (sym at) is_map

    pub entry_whole : holds_floats c.pool.now (target_type t) ≡ false
    entry_whole = subst (λ p. holds_floats p (target_type t) ≡ false) (sym at) (target_whole d sound.apart t owns)

module _ (levels : ℕ) (old : DynamicMessage) (sound : IsSound old.descriptor.pool.now) (shape : Exclusive (suc levels) old) (t : Target) (owns : OwnsTarget old.descriptor t)
    (is_map : holds_map old.descriptor.pool.now (target_type t) ≡ true) where
  were : (o : Option Value) → ((v : Value) → o ≡ Some v → FitsShaped (Exclusive levels) old.descriptor.pool.now (target_type t) v) → (es : List (MapKey × Value)) × (entries_held o ≡ Some es)
  were None h = ([], refl)
  were (Some v) h = let its = subst (λ b. FitsAs (Exclusive levels) old.descriptor.pool.now (target_type t) b (holds_list old.descriptor.pool.now (target_type t)) v) is_map (h v refl) in (its.0, its.1)

  -- the entries that it held
  pub held_entries : (es : List (MapKey × Value)) × (entries_held (held_by old t) ≡ Some es)
  held_entries = were (held_by old t) (stood levels old sound shape t owns)

-- ---- an entry is put

module _ (levels : ℕ) (old : DynamicMessage) (sound : IsSound old.descriptor.pool.now) (shape : Exclusive (suc (suc levels)) old) (new : DynamicMessage)
    (type : new.descriptor ≡ old.descriptor) (t : Target) (owns : OwnsTarget old.descriptor t)
    (is_map : holds_map old.descriptor.pool.now (target_type t) ≡ true) (c : MessageDescriptor) (at : c.pool.now ≡ old.descriptor.pool.now) (kind : (target_type t).kind ≡ types.message c.index)
    (m : DynamicMessage) (same : m.descriptor ≡ c) (entry : Exclusive (suc (suc levels)) m) (adds : AddsValues t (held.Message m ∷ []) old new) where
  abbrev d : MessageDescriptor
  d = old.descriptor

  abbrev pool : PoolType
  pool = old.descriptor.pool.now

  abbrev f : FieldType
  f = target_type t

  abbrev inner : DynamicMessage → Type 0
  inner = Exclusive (suc levels)

  abbrev vs : List Value
  vs = held.Message m ∷ []

  values_fit : (before after : List (MapKey × Value)) → AllValues inner pool f.kind before → PutsAll before after vs → AllValues inner pool f.kind after
  values_fit =
      let its = subst (λ (c : MessageDescriptor). IsShapely inner c.pool.now c.index (content_of m)) same (shapely inner m.descriptor (content_of m) entry.0) in
      subst (λ p. (before after : List (MapKey × Value)) → AllValues inner p f.kind before → PutsAll before after vs → AllValues inner p f.kind after) at
      (entries_fit inner (nothing_shaped true levels) c f kind (entry_sound d sound t owns is_map c at) (entry_map d sound t owns is_map c at) (entry_whole d sound t owns is_map c at) vs ((m, refl, same, its), tt))

  pub map_shape : Exclusive (suc (suc levels)) new
  map_shape =
      let order = adds.4 (ascends (suc levels) old sound shape) in
      let its_map = target_map d sound t owns is_map in
      shaped_so (suc levels) old sound shape new type
      (shape_kept inner d sound.apart t owns (target_number d sound.numbers t owns) old new (add_leaves t old new adds.0 (adds.5 (many_map t its_map))) (added_unknown t vs old new adds) order.0 order.1
      (map_after inner pool f is_map (held_by old t) (held_by new t) vs (stood (suc levels) old sound shape t owns) (adds.2 its_map) values_fit) (before (suc levels) old sound shape))
      (stays t old new owns adds.3 shape.1)
