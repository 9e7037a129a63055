-- What is read of a token behind a minus.
use Rattle.protox_lex.specs.declared.span.Span.{Span}
use Rattle.protox_options.specs.Negation.{negated_value, IsNegative}
use Rattle.protox_options.specs.OptionGrammar.{in_range}
use Rattle.protox_options.specs.declared.option_rules.Negated.{Negated}
use Rattle.protox_options.specs.declared.option_rules.Negated.TheVariants as negates
use Rattle.protox_tokens.specs.Reads.{Reads}
use Rattle.protox_tokens.specs.Stream.{stream}
use Rattle.protox_tokens.specs.declared.fault.Stop.{Stop}
use Rattle.protox_tokens.specs.declared.fault.Stop.TheVariants.{Memory, Refused}
use Rattle.protox_tokens.specs.declared.tokens.Tokens.{Tokens}
use Rattle.protox_tree.specs.View.{value_view}
use Rattle.protox_tree.specs.declared.option.OptionValue.{OptionValue}
use Rattle.std.proofs.Common.{Result, Ok, Err, ap, sym}

-- its value, where that is in range
pub negated_reads : (n : Negated) (at : Span) (r : Result OptionValue Stop) (new : Tokens) → IsNegative n at r
    → Reads value_view (in_range (negated_value n at) (stream new)) r new
negated_reads (negates.Int n) at (Ok x) new h = rw h.0 (ap (λ v. Ok (v, stream new)) (sym h.1))
negated_reads (negates.Int n) at (Err Memory) new h = tt
negated_reads (negates.Int n) at (Err (Refused f)) new h = rw h.0 (ap (λ f. Err f) (sym h.1))
negated_reads (negates.Float t) at (Ok x) new h = ap (λ v. Ok (v, stream new)) (sym h)
negated_reads (negates.Float t) at (Err Memory) new h = tt
negated_reads (negates.Float t) at (Err (Refused f)) new h = absurd cc
negated_reads (negates.Word t) at (Ok x) new h = ap (λ v. Ok (v, stream new)) (sym h)
negated_reads (negates.Word t) at (Err Memory) new h = tt
negated_reads (negates.Word t) at (Err (Refused f)) new h = absurd cc
