use Rattle.std.proofs.Common.{◌≡◌, drop, map}
use Rattle.protox_locate.specs.Declarations.{after_method_item, each, method_item_events, none}
use Rattle.protox_locate.specs.Collected.{meets, state}
use Rattle.protox_tree.specs.View.{method_item_view}
use Rattle.protox_locate.proofs.services.method_body.Given as goal

abbrev pub invariant-items : goal.invariant-items
invariant-items l = meets (state l.locator) (each (method_item_events l.path) after_method_item l.options (map method_item_view (drop l.item-index l.item-items))) ≡ meets (state l.initial.locator) (each (method_item_events l.path) after_method_item none (map method_item_view l.item-items))
