use Rattle.protox_tokens.proofs.Loops.{with_front}
use Rattle.protox_lex.specs.Token.{sign}
use Rattle.protox_options.specs.OptionGrammar.{name_part, name}
use Rattle.protox_tokens.specs.Left.{left}
use Rattle.protox_tokens.specs.Parser.{behind, loop}
use Rattle.protox_tokens.specs.Stream.{stream}
use Rattle.protox_tree.specs.View.{name_view}
use Rattle.std.proofs.Common.{◌≡◌, ◌<◌, ◌≤◌, length}
use Rattle.protox_options.proofs.option_rules.name.Given as goal
use Rattle.protox_lex.specs.declared.token.Sign.TheVariants as s

abbrev pub invariant-rest : goal.invariant-rest
invariant-rest l = record {
  some : 0 < length l.list.items;
  moves : left l.tokens ≤ left l.initial.tokens;
  so_far : with_front (name_view l.list.items) (loop (behind (sign s.Dot) name_part) (stream l.tokens)) ≡ name (stream l.fn.tokens);
}

abbrev pub decreases-rest : goal.decreases-rest
decreases-rest l = left l.tokens
