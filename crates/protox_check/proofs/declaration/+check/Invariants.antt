use Rattle.std.proofs.Common.{◌≡◌, ◌++◌, take}
use Rattle.std.specs.List.{flat_map}
use Rattle.protox_check.specs.Faults.{item_faults, member_faults, added_item_faults}
use Rattle.protox_tree.specs.NestView.{item_view, member_view, added_view}
use Rattle.protox_check.proofs.declaration.+check.Given as goal

abbrev pub invariant-check_items-each : goal.invariant-check_items-each
invariant-check_items-each l = l.faults.items ≡ l.initial.faults.items ++ flat_map (λ i. item_faults l.syntax (item_view i)) (take l.item-index l.item-items)

abbrev pub invariant-check_oneof-each : goal.invariant-check_oneof-each
invariant-check_oneof-each l = l.faults.items ≡ l.initial.faults.items ++ flat_map (λ i. member_faults l.syntax (member_view i)) (take l.item-index l.item-items)

abbrev pub invariant-check_extend-each : goal.invariant-check_extend-each
invariant-check_extend-each l = l.faults.items ≡ l.initial.faults.items ++ flat_map (λ i. added_item_faults l.syntax (added_view i)) (take l.item-index l.item-items)
