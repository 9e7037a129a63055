use Rattle.protox_lex.specs.Token.{sign}
use Rattle.protox_aggregates.specs.AggregateGrammar.{an_ident_as}
use Rattle.protox_aggregates.specs.BraceTexts.{WritesTokens}
use Rattle.protox_tokens.specs.Left.{left}
use Rattle.protox_tokens.specs.Parser.{behind_in, many}
use Rattle.protox_tokens.specs.Refusal.{an_ident}
use Rattle.protox_tokens.specs.Stream.{stream, text}
use Rattle.std.proofs.Common.{string_bytes, ◌≡◌, ◌≤◌}
use Rattle.protox_lex.specs.declared.token.Sign.TheVariants as s
use Rattle.protox_aggregates.proofs.aggregate_rules.full_ident.Given as goal

abbrev pub invariant-parts : goal.invariant-parts
invariant-parts l =
    let rest = many (behind_in text (sign s.Dot) (an_ident_as an_ident)) in
    record {
      moves : left l.tokens ≤ left l.initial.tokens;
      so_far : rest (stream l.tokens) ≡ rest (stream l.initial.tokens);
      writes : WritesTokens (stream l.initial.tokens) (string_bytes l.initial.text) (stream l.tokens) (string_bytes l.text);
    }

abbrev pub decreases-parts : goal.decreases-parts
decreases-parts l = left l.tokens
