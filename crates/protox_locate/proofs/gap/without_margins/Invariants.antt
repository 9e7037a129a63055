use Rattle.std.proofs.Common.{◌≡◌, ◌-◌, ◌≤◌, ◌++◌, drop, length}
use Rattle.protox_locate.specs.Gap.{without_margins}
use Rattle.protox_locate.proofs.Margins.{told_behind}
use Rattle.protox_locate.proofs.gap.without_margins.Given as goal

abbrev pub invariant-lines : goal.invariant-lines
invariant-lines l = record {
  within : l.at ≤ length l.text;
  so_far : l.bytes.items ++ told_behind (drop l.at l.text) ≡ without_margins l.text;
}

abbrev pub decreases-lines : goal.decreases-lines
decreases-lines l = length l.text - l.at
