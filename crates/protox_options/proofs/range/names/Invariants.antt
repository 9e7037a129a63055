use Rattle.protox_tokens.proofs.Loops.{with_front}
use Rattle.protox_lex.specs.Token.{sign}
use Rattle.protox_options.specs.RangeGrammar.{names}
use Rattle.protox_options.specs.NameGrammar.{strings}
use Rattle.protox_tokens.specs.Left.{left}
use Rattle.protox_tokens.specs.Parser.{behind, loop}
use Rattle.protox_tokens.specs.Stream.{stream}
use Rattle.protox_tree.specs.View.{names_view}
use Rattle.std.proofs.Common.{◌≡◌, ◌≤◌}
use Rattle.protox_options.proofs.range.names.Given as goal
use Rattle.protox_lex.specs.declared.token.Sign.TheVariants as s

abbrev pub invariant-rest : goal.invariant-rest
invariant-rest l = record {
  moves : left l.tokens ≤ left l.initial.tokens;
  so_far : with_front (names_view l.list.items) (loop (behind (sign s.Comma) strings) (stream l.tokens)) ≡ names (stream l.fn.tokens);
}

abbrev pub decreases-rest : goal.decreases-rest
decreases-rest l = left l.tokens
