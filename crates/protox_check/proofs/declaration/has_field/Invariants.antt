use Rattle.std.proofs.Common.{◌≡◌, drop}
use Rattle.protox_check.specs.Faults.{has_field}
use Rattle.protox_tree.specs.Nest.{members_of}
use Rattle.protox_tree.specs.NestView.{members_view}
use Rattle.protox_check.proofs.declaration.has_field.Given as goal

abbrev pub invariant-each : goal.invariant-each
invariant-each l = has_field (members_of (members_view (drop l.item-index l.item-items))) ≡ has_field (members_of (members_view l.items.items))
