use Rattle.std.proofs.Common.{◌≡◌, ◌+◌, ◌-◌, ◌≤◌, length, drop}
use Rattle.protox_lex.specs.Lex.{comment_len}
use Rattle.protox_lex.proofs.front.past_comment_text.Given as goal

abbrev pub invariant-loop-at : goal.invariant-loop-at
invariant-loop-at l = record {
  same : l.at + comment_len (drop l.at l.z) ≡ 2 + comment_len (drop 2 l.z);
  within : l.at ≤ length l.z;
}

abbrev pub decreases-loop-at : goal.decreases-loop-at
decreases-loop-at l = length l.z - l.at
