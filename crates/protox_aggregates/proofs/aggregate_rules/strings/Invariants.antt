use Rattle.protox_aggregates.specs.AggregateGrammar.{a_literal}
use Rattle.protox_aggregates.specs.BraceTexts.{WritesTokens}
use Rattle.protox_tokens.specs.Left.{left}
use Rattle.protox_tokens.specs.Parser.{when, many, is_string_in}
use Rattle.protox_tokens.specs.Stream.{stream, text}
use Rattle.std.proofs.Common.{string_bytes, ◌≡◌, ◌≤◌}
use Rattle.protox_aggregates.proofs.aggregate_rules.strings.Given as goal

abbrev pub invariant-literals : goal.invariant-literals
invariant-literals l =
    let rest = many (when (is_string_in text) a_literal) in
    record {
      moves : left l.tokens ≤ left l.initial.tokens;
      so_far : rest (stream l.tokens) ≡ rest (stream l.initial.tokens);
      writes : WritesTokens (stream l.initial.tokens) (string_bytes l.initial.text) (stream l.tokens) (string_bytes l.text);
    }

abbrev pub decreases-literals : goal.decreases-literals
decreases-literals l = left l.tokens
