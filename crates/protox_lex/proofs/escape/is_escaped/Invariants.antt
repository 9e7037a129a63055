use Rattle.std.proofs.Common.{◌-◌, ◌≤◌, length, drop}
use Rattle.protox_lex.specs.Spelled.{IsEscaped}
use Rattle.protox_lex.proofs.escape.is_escaped.Given as goal

abbrev pub invariant-loop-at : goal.invariant-loop-at
invariant-loop-at l = record {
  within : l.at ≤ length l.raw;
  back : IsEscaped (drop l.at l.raw) → IsEscaped l.raw;
  on : IsEscaped l.raw → IsEscaped (drop l.at l.raw);
}

abbrev pub decreases-loop-at : goal.decreases-loop-at
decreases-loop-at l = length l.raw - l.at
