use Rattle.std.proofs.Common.{◌≡◌, ◌+◌, ◌-◌, ◌≤◌, length, drop}
use Rattle.std.specs.List.{prefix_len}
use Rattle.protox_locate.specs.Gap.{is_blank}
use Rattle.protox_locate.proofs.gap.without_margin.Given as goal

abbrev pub invariant-blanks : goal.invariant-blanks
invariant-blanks l = record {
  within : l.start ≤ length l.line;
  so_far : l.start + prefix_len is_blank (drop l.start l.line) ≡ prefix_len is_blank l.line;
}

abbrev pub decreases-blanks : goal.decreases-blanks
decreases-blanks l = length l.line - l.start
