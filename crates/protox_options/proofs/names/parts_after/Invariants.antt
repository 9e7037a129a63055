use Rattle.protox_tokens.proofs.Loops.{with_front}
use Rattle.protox_lex.specs.Token.{sign}
use Rattle.protox_options.specs.NameGrammar.{parts_after}
use Rattle.protox_tokens.specs.Left.{left}
use Rattle.protox_tokens.specs.Parser.{behind, loop, word}
use Rattle.protox_tokens.specs.Stream.{stream}
use Rattle.protox_tree.specs.View.{ident_view, idents_view}
use Rattle.std.proofs.Common.{◌≡◌, ◌<◌, ◌≤◌, length}
use Rattle.protox_options.proofs.names.parts_after.Given as goal
use Rattle.protox_lex.specs.declared.token.Sign.TheVariants as s

abbrev pub invariant-rest : goal.invariant-rest
invariant-rest l = record {
  some : 0 < length l.list.items;
  moves : left l.tokens ≤ left l.initial.tokens;
  so_far : with_front (idents_view l.list.items) (loop (behind (sign s.Dot) word) (stream l.tokens)) ≡ parts_after (ident_view l.fn.first) (stream l.fn.tokens);
}

abbrev pub decreases-rest : goal.decreases-rest
decreases-rest l = left l.tokens
