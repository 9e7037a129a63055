use Rattle.protox_lex.specs.Token.{sign}
use Rattle.protox_messages.specs.MessageGrammar.{block, item_with, items_with, member_with, members_with, added_with, all_added_with}
use Rattle.protox_tokens.proofs.Loops.{with_front}
use Rattle.protox_tokens.specs.Left.{left}
use Rattle.protox_tokens.specs.Parser.{loop, until}
use Rattle.protox_tokens.specs.Stream.{stream}
use Rattle.protox_tree.specs.NestView.{items_view, members_view, added_items_view}
use Rattle.std.proofs.Common.{◌≡◌, ◌≤◌, ◌*◌, ◌+◌, ◌-◌}
use Rattle.protox_lex.specs.declared.token.Sign.TheVariants as s
use Rattle.protox_messages.proofs.messages.+message.Given as goal

abbrev pub decreases-block : goal.decreases-block
decreases-block l = 2 * left l.tokens.now

abbrev pub decreases-message : goal.decreases-message
decreases-message l = 2 * left l.tokens.now

abbrev pub decreases-oneof : goal.decreases-oneof
decreases-oneof l = 2 * left l.tokens.now

abbrev pub decreases-extend : goal.decreases-extend
decreases-extend l = 2 * left l.tokens.now

abbrev pub decreases-group : goal.decreases-group
decreases-group l = 2 * left l.tokens.now

abbrev pub decreases-field : goal.decreases-field
decreases-field l = 2 * left l.tokens.now

abbrev pub decreases-item : goal.decreases-item
decreases-item l = 2 * left l.tokens.now + 1

abbrev pub decreases-member : goal.decreases-member
decreases-member l = 2 * left l.tokens.now + 1

abbrev pub decreases-added : goal.decreases-added
decreases-added l = 2 * left l.tokens.now + 1

abbrev pub invariant-block-items : goal.invariant-block-items
invariant-block-items l =
    let inner = block (l.levels - 1) in
    let rest = loop (until (sign s.RightBrace) (item_with inner)) in
    record {
      moves : left l.tokens ≤ left l.initial.tokens;
      so_far : with_front (items_view l.items.items) (rest (stream l.tokens)) ≡ items_with inner (stream l.initial.tokens);
    }

abbrev pub decreases-block-items : goal.decreases-block-items
decreases-block-items l = left l.tokens

abbrev pub invariant-oneof-items : goal.invariant-oneof-items
invariant-oneof-items l =
    let rest = loop (until (sign s.RightBrace) (member_with (block l.levels))) in
    record {
      moves : left l.tokens ≤ left l.initial.tokens;
      so_far : with_front (members_view l.items.items) (rest (stream l.tokens))
          ≡ members_with (block l.levels) (stream l.initial.tokens);
    }

abbrev pub decreases-oneof-items : goal.decreases-oneof-items
decreases-oneof-items l = left l.tokens

abbrev pub invariant-extend-items : goal.invariant-extend-items
invariant-extend-items l =
    let rest = loop (until (sign s.RightBrace) (added_with (block l.levels))) in
    record {
      moves : left l.tokens ≤ left l.initial.tokens;
      so_far : with_front (added_items_view l.items.items) (rest (stream l.tokens))
          ≡ all_added_with (block l.levels) (stream l.initial.tokens);
    }

abbrev pub decreases-extend-items : goal.decreases-extend-items
decreases-extend-items l = left l.tokens
