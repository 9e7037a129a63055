-- A message of which all suits its type, and in which of each oneof one member at most is set, stays
-- so where a value is put into it that suits its target, or where it loses one.
use Rattle.std.proofs.Common.{◌≡◌, ℕ, suc, true, false, List, [], ◌∷◌, ◌++◌, Some, unwrap_or, sym, ap, ◌∙◌, subst}
use Rattle.std.specs.Prelude.{IfSome}
use Rattle.message_view.specs.Shaped.{Exclusive, FitsOne, FitsShaped, IsShaped}
use Rattle.message_view.specs.Sound.{IsSound}
use Rattle.message_view.specs.Views.{view}
use Rattle.message_view.proofs.Changed.{unset_extension_shaped, unset_shaped}
use Rattle.message_view.proofs.Fields.{extension_owned, none_owned, owned}
use Rattle.option_setter.specs.SetOptions.{Unsets}
use Rattle.reflect_format.specs.Steps.{AddsValues, Ascends, Puts, StaysAscending, StaysExclusive, held_by}
use Rattle.reflect_format.specs.Takes.{holds_many, target_type}
use Rattle.reflect_format.specs.declared.target.Target.{Target}
use Rattle.reflect_format.specs.declared.target.Target.TheVariants as targets
use Rattle.reflect_message.specs.Contents.{content_of}
use Rattle.reflect_message.specs.Held.{unknown_of}
use Rattle.reflect_message.specs.Lists.{items_held}
use Rattle.reflect_message.specs.Names.{DynamicMessage, Value}
use Rattle.reflect_message.specs.Oneofs.{IsExclusive}
use Rattle.reflect_pool.specs.FieldsLeft.{field_type}
use Rattle.reflect_pool.specs.Shapes.{holds_list}
use Rattle.reflect_pool.specs.declared.message.MessageDescriptor.{MessageDescriptor}
use Rattle.reflect_scalar.specs.FieldTypes.{extension_type}
use Rattle.set_view.specs.Puts.{IsUnset}
use Rattle.set_view.proofs.Viewed.{extension_unset, field_unset}
use Rattle.text_view.proofs.Adds.{list_of_many}
use Rattle.text_view.proofs.Apart.{no_field_there}
use Rattle.text_view.proofs.Kept.{add_leaves, many_list, put_leaves}
use Rattle.text_view.proofs.Once.{one_of, put_here}
use Rattle.text_view.proofs.Owned.{OwnsTarget, pool_is}
use Rattle.text_view.proofs.Shaped.{IsShapely, fits_single, list_after, list_before, shape_kept, shaped, shapely, target_number}
use Rattle.text_view.proofs.Steady.{stays}
use Rattle.stored_options.proofs.Owning.{left_exclusive}

-- the other records stay
put_unknown : (t : Target) (v : Value) (old new : DynamicMessage) → Puts t v old new → unknown_of new ≡ unknown_of old
put_unknown (targets.Field f) v old new puts = puts.unknown
put_unknown (targets.Extension x) v old new puts = puts.unknown

pub added_unknown : (t : Target) (vs : List Value) (old new : DynamicMessage) → AddsValues t vs old new → unknown_of new ≡ unknown_of old
added_unknown (targets.Field f) vs old new adds = adds.0.2
added_unknown (targets.Extension x) vs old new adds = adds.0.2

module _ (levels : ℕ) (old : DynamicMessage) (sound : IsSound old.descriptor.pool.now) (shape : Exclusive (suc levels) old) where
  abbrev d : MessageDescriptor
  d = old.descriptor

  abbrev inner : DynamicMessage → Type 0
  inner = Exclusive levels

  pub before : IsShapely inner d.pool.now d.index (content_of old)
  before = shapely inner d (content_of old) shape.0

  pub ascends : Ascends old
  ascends = (before.in_fields.ascending, before.in_extensions.ascending)

  -- what a target holds before
  pub stood : (t : Target) → OwnsTarget d t → (v : Value) → held_by old t ≡ Some v → FitsShaped inner d.pool.now (target_type t) v
  stood (targets.Field f) owns v at = before.field (field_type f).number (field_type f) (owned d f owns) v at
  stood (targets.Extension x) owns v at = before.extension (extension_type x).number (extension_type x) (no_field_there d sound.apart x owns) (extension_owned d x owns) v at

  -- ---- what is left where a target is taken out

  shape_left : (left : DynamicMessage) (t : Target) → OwnsTarget d t → Unsets t old left → IsShaped inner left.descriptor (content_of left)
  shape_left left (targets.Field f) owns unsets = unset_shaped inner old left sound unsets.same_type shape.0 f owns unsets
  shape_left left (targets.Extension x) owns unsets = unset_extension_shaped inner old left sound unsets.same_type shape.0 x owns unsets

  pub left_shape : (left : DynamicMessage) (t : Target) → OwnsTarget d t → Unsets t old left → Exclusive (suc levels) left
  left_shape left t owns unsets = (shape_left left t owns unsets, left_exclusive t old left unsets shape.1)

  pub unset_so : (left : DynamicMessage) (t : Target) → OwnsTarget d t → Unsets t old left → IsUnset (target_type t).number (view old) (view left)
  unset_so left (targets.Field f) owns unsets = field_unset old left unsets.same_type f owns unsets
  unset_so left (targets.Extension x) owns unsets = extension_unset old left unsets.same_type x owns (none_owned d (extension_type x).number (no_field_there d sound.apart x owns)) unsets

  -- ---- what comes of it where a target gets values

  module _ (new : DynamicMessage) (type : new.descriptor ≡ d) where
    -- what suits the old one's type suits its own
    pub shaped_so : IsShapely inner d.pool.now d.index (content_of new) → IsExclusive new → Exclusive (suc levels) new
    shaped_so after sole = (subst (λ (c : MessageDescriptor). IsShaped inner c (content_of new)) (sym type) (shaped inner d (content_of new) after), sole)

    module _ (t : Target) (owns : OwnsTarget d t) where
      -- one value
      pub put_shape : holds_many t ≡ false → (v : Value) → FitsOne inner d.pool.now (target_type t) v → Puts t v old new
          → StaysExclusive t old new → StaysAscending old new → Exclusive (suc levels) new
      put_shape of_one v fits puts exclusive ascending =
          let none = one_of d sound.apart t owns of_one in
          let order = ascending ascends in
          let here = fits_single inner d.pool.now (target_type t) v none.0 none.1 fits in
          shaped_so
          (shape_kept inner d sound.apart t owns (target_number d sound.numbers t owns) old new (put_leaves t v old new puts) (put_unknown t v old new puts) order.0 order.1
          (λ u at. subst (FitsShaped inner d.pool.now (target_type t)) (ap (λ o. unwrap_or o u) (sym (put_here t v old new puts) ∙ at)) here) before)
          (stays t old new owns exclusive shape.1)

      -- a further one of a list
      pub list_shape : holds_list d.pool.now (target_type t) ≡ true → (v : Value) → FitsOne inner d.pool.now (target_type t) v
          → AddsValues t (v ∷ []) old new → Exclusive (suc levels) new
      list_shape is_list v fits adds =
          let two = list_of_many d.pool.now (target_type t) is_list in
          let order = adds.4 ascends in
          let its_list = subst (λ p. holds_list p (target_type t) ≡ true) (sym (pool_is d sound.apart t owns)) is_list in
          let held = list_before inner d.pool.now (target_type t) two.1 is_list (held_by old t) (stood t owns) in
          let longer = subst (λ o. IfSome o (λ b. items_held (held_by new t) ≡ Some (b ++ (v ∷ [])))) held.1 (adds.1 its_list) in
          shaped_so
          (shape_kept inner d sound.apart t owns (target_number d sound.numbers t owns) old new (add_leaves t old new adds.0 (adds.5 (many_list t its_list))) (added_unknown t (v ∷ []) old new adds) order.0 order.1
          (list_after inner d.pool.now (target_type t) two.1 is_list (held_by old t) (held_by new t) held.0 (v ∷ []) (stood t owns) held.1 longer (fits, tt)) before)
          (stays t old new owns adds.3 shape.1)
