use Rattle.protox_lex.specs.Token.{sign}
use Rattle.protox_aggregates.specs.AggregateGrammar.{braces, value_with, field_with}
use Rattle.protox_aggregates.specs.BraceTexts.{WritesTokens}
use Rattle.protox_tokens.specs.Left.{left}
use Rattle.protox_tokens.specs.Parser.{behind_in, until_in, many}
use Rattle.protox_tokens.specs.Stream.{stream, text}
use Rattle.std.proofs.Common.{string_bytes, ◌≡◌, ◌≤◌, ◌*◌, ◌+◌}
use Rattle.protox_lex.specs.declared.token.Sign.TheVariants as s
use Rattle.protox_aggregates.proofs.aggregate_rules.+aggregate.Given as goal

abbrev pub decreases-braces : goal.decreases-braces
decreases-braces l = 6 * left l.tokens.now

abbrev pub decreases-value : goal.decreases-value
decreases-value l = 6 * left l.tokens.now + 1

abbrev pub decreases-list : goal.decreases-list
decreases-list l = 6 * left l.tokens.now + 2

abbrev pub decreases-field_value : goal.decreases-field_value
decreases-field_value l = 6 * left l.tokens.now + 3

abbrev pub decreases-field : goal.decreases-field
decreases-field l = 6 * left l.tokens.now + 4

abbrev pub decreases-fields : goal.decreases-fields
decreases-fields l = 6 * left l.tokens.now + 5

abbrev pub invariant-list-elements : goal.invariant-list-elements
invariant-list-elements l =
    let rest = many (behind_in text (sign s.Comma) (value_with (braces l.levels))) in
    record {
      moves : left l.tokens ≤ left l.initial.tokens;
      so_far : rest (stream l.tokens) ≡ rest (stream l.initial.tokens);
      writes : WritesTokens (stream l.initial.tokens) (string_bytes l.initial.text) (stream l.tokens) (string_bytes l.text);
    }

abbrev pub decreases-list-elements : goal.decreases-list-elements
decreases-list-elements l = left l.tokens

abbrev pub invariant-fields-fields : goal.invariant-fields-fields
invariant-fields-fields l =
    let rest = many (until_in text (sign l.close) (field_with (braces l.levels))) in
    record {
      moves : left l.tokens ≤ left l.initial.tokens;
      so_far : rest (stream l.tokens) ≡ rest (stream l.initial.tokens);
      writes : WritesTokens (stream l.initial.tokens) (string_bytes l.initial.text) (stream l.tokens) (string_bytes l.text);
    }

abbrev pub decreases-fields-fields : goal.decreases-fields-fields
decreases-fields-fields l = left l.tokens
