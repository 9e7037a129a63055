use Rattle.protox_declarations.specs.EnumGrammar.{enum_item, enum_items}
use Rattle.protox_lex.specs.Token.{sign}
use Rattle.protox_tokens.proofs.Loops.{with_front}
use Rattle.protox_tokens.specs.Left.{left}
use Rattle.protox_tokens.specs.Parser.{loop, until}
use Rattle.protox_tokens.specs.Stream.{stream}
use Rattle.protox_tree.specs.View.{enum_items_view}
use Rattle.std.proofs.Common.{◌≡◌, ◌≤◌}
use Rattle.protox_lex.specs.declared.token.Sign.TheVariants as s
use Rattle.protox_declarations.proofs.enums.enumeration.Given as goal

abbrev pub invariant-items : goal.invariant-items
invariant-items l =
    let rest = loop (until (sign s.RightBrace) enum_item) in
    record {
      moves : left l.tokens ≤ left l.initial.tokens;
      so_far : with_front (enum_items_view l.items.items) (rest (stream l.tokens)) ≡ enum_items (stream l.initial.tokens);
    }

abbrev pub decreases-items : goal.decreases-items
decreases-items l = left l.tokens
