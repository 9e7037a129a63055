use Rattle.std.proofs.Common.{◌≡◌, ◌+◌, ◌-◌, ◌≤◌, length, drop}
use Rattle.protox_lex.specs.Lex.{contents_len}
use Rattle.protox_lex.proofs.quoted.contents_len.Given as goal

abbrev pub invariant-loop-n : goal.invariant-loop-n
invariant-loop-n l = record {
  same : l.n + contents_len l.quote (drop l.n l.y) ≡ contents_len l.quote l.y;
  within : l.n ≤ length l.y;
}

abbrev pub decreases-loop-n : goal.decreases-loop-n
decreases-loop-n l = length l.y - l.n
