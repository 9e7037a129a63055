use Rattle.protox_tokens.proofs.Loops.{with_front}
use Rattle.protox_lex.specs.Token.{sign}
use Rattle.protox_options.specs.RangeGrammar.{range, ranges}
use Rattle.protox_tokens.specs.Left.{left}
use Rattle.protox_tokens.specs.Parser.{behind, loop}
use Rattle.protox_tokens.specs.Stream.{stream}
use Rattle.std.proofs.Common.{◌≡◌, ◌≤◌}
use Rattle.protox_options.proofs.range.ranges.Given as goal
use Rattle.protox_lex.specs.declared.token.Sign.TheVariants as s

abbrev pub invariant-rest : goal.invariant-rest
invariant-rest l = record {
  moves : left l.tokens ≤ left l.initial.tokens;
  so_far : with_front l.list.items (loop (behind (sign s.Comma) range) (stream l.tokens)) ≡ ranges (stream l.fn.tokens);
}

abbrev pub decreases-rest : goal.decreases-rest
decreases-rest l = left l.tokens
