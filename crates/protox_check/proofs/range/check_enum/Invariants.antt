use Rattle.std.proofs.Common.{◌≡◌, ◌++◌, take}
use Rattle.std.specs.List.{flat_map}
use Rattle.protox_check.specs.Ranges.{enum_item_faults}
use Rattle.protox_tree.specs.View.{enum_items_view}
use Rattle.protox_check.proofs.range.check_enum.Given as goal

abbrev pub invariant-each : goal.invariant-each
invariant-each l = l.faults.items ≡ l.initial.faults.items ++ flat_map enum_item_faults (enum_items_view (take l.item-index l.item-items))
