use Rattle.std.proofs.Common.{◌≡◌, ◌-◌, ◌≤◌, ◌++◌, length, drop}
use Rattle.protox_lex.specs.Lex.{unescaped}
use Rattle.protox_lex.proofs.escape.unescape.Given as goal

abbrev pub invariant-loop-at : goal.invariant-loop-at
invariant-loop-at l = record {
  within : l.at ≤ length l.raw;
  same : l.bytes.items ++ unescaped (drop l.at l.raw) ≡ unescaped l.raw;
}

abbrev pub decreases-loop-at : goal.decreases-loop-at
decreases-loop-at l = length l.raw - l.at
