use Rattle.protox_tokens.proofs.Loops.{with_front}
use Rattle.protox_options.specs.NameGrammar.{strings}
use Rattle.protox_tokens.specs.Left.{left}
use Rattle.protox_tokens.specs.Parser.{when, loop, literal, is_string}
use Rattle.protox_tokens.specs.Stream.{stream}
use Rattle.protox_tree.specs.View.{literals_view}
use Rattle.std.proofs.Common.{◌≡◌, ◌<◌, ◌≤◌, length}
use Rattle.protox_options.proofs.names.strings.Given as goal

abbrev pub invariant-rest : goal.invariant-rest
invariant-rest l = record {
  some : 0 < length l.list.items;
  moves : left l.tokens ≤ left l.initial.tokens;
  so_far : with_front (literals_view l.list.items) (loop (when is_string literal) (stream l.tokens)) ≡ strings (stream l.fn.tokens);
}

abbrev pub decreases-rest : goal.decreases-rest
decreases-rest l = left l.tokens
