use Rattle.std.proofs.Common.{◌≡◌, drop, map}
use Rattle.protox_locate.specs.Declarations.{after_enum_item, each, enum_item_events, no_values}
use Rattle.protox_locate.specs.Collected.{meets, state}
use Rattle.protox_tree.specs.View.{enum_item_view}
use Rattle.protox_locate.proofs.enums.enumeration.Given as goal

abbrev pub invariant-items : goal.invariant-items
invariant-items l = meets (state l.locator) (each (enum_item_events l.path) after_enum_item l.counts (map enum_item_view (drop l.item-index l.item-items))) ≡ meets (state l.initial.locator) (each (enum_item_events l.path) after_enum_item no_values (map enum_item_view l.item-items))
