use Rattle.std.proofs.Common.{◌≡◌, drop, map}
use Rattle.protox_locate.specs.Declarations.{after_service_item, each, no_methods, service_item_events}
use Rattle.protox_locate.specs.Collected.{meets, state}
use Rattle.protox_tree.specs.View.{service_item_view}
use Rattle.protox_locate.proofs.services.service.Given as goal

abbrev pub invariant-items : goal.invariant-items
invariant-items l = meets (state l.locator) (each (service_item_events l.path) after_service_item l.counts (map service_item_view (drop l.item-index l.item-items))) ≡ meets (state l.initial.locator) (each (service_item_events l.path) after_service_item no_methods (map service_item_view l.item-items))
