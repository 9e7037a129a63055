use Rattle.std.proofs.Common.{◌≡◌, drop, map}
use Rattle.protox_locate.specs.Declarations.{each}
use Rattle.protox_locate.specs.Collected.{meets, state}
use Rattle.protox_locate.specs.Files.{after_item, item_events, no_counts}
use Rattle.protox_tree.specs.FileView.{file_item_view}
use Rattle.protox_locate.proofs.file.statements.Given as goal

abbrev pub invariant-items : goal.invariant-items
invariant-items l = meets (state l.locator) (each item_events after_item l.counts (map file_item_view (drop l.item-index l.item-items))) ≡ meets (state l.initial.locator) (each item_events after_item no_counts (map file_item_view l.item-items))
