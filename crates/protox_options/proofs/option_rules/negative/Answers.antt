use Rattle.protox_lex.specs.Token.{Token}
use Rattle.protox_lex.specs.declared.span.Span.{Span}
use Rattle.protox_options.proofs.Behind.{Answers, behind, told, moved, one_refused, one_read}
use Rattle.protox_options.proofs.Minus.{negated_reads}
use Rattle.protox_options.proofs.OptionLaws.{Moves-negative}
use Rattle.protox_options.specs.Negation.{negated_value, IsNegative}
use Rattle.protox_options.specs.OptionGrammar.{negative_of, in_range, negative}
use Rattle.protox_tokens.specs.Parser.{and_then, value_of, one}
use Rattle.protox_tokens.specs.Reads.{Reads}
use Rattle.protox_tokens.specs.Refusal.{a_number, refusal}
use Rattle.protox_tokens.specs.Span.{across}
use Rattle.protox_tokens.specs.Stream.{stream, source}
use Rattle.protox_tree.specs.View.{value_view}
use Rattle.std.proofs.Common.{◌≡◌, ◌∙◌, ap, sym, subst, Err}
use Rattle.protox_options.proofs.option_rules.negative.Goals as goal

pub returns-in_default : goal.returns-in_default
unfolding negative
returns-in_default c =
    let ts = stream c.args.tokens.now in
    let of = λ (t : Token) (at : Span). negative_of t (across c.args.minus at) in
    let f = refusal source a_number ts in
    let h : Answers (λ o. o ≡ Err f) (negative c.args.minus) ts =
    record {
      so = ap (λ o. and_then o in_range) (one_refused source a_number of ts (ap (value_of of)
          (sym c.in_default.ensures.seen)));
    } in
    record { reads = told f c.refuse.result c.refuse.ensures h.so; moves = tt }

pub returns-in_default-behind_minus : goal.returns-in_default-behind_minus
unfolding negative
returns-in_default-behind_minus c =
    let ts = stream c.args.tokens.now in
    let of = λ (t : Token) (at : Span). negative_of t (across c.args.minus at) in
    let f = refusal source a_number ts in
    let none =
    ap (value_of of) (sym c.in-Some.ensures.seen) ∙ sym (c.in_default-behind_minus.ensures
    (across c.args.minus c.in-Some.field-0.span)) in
    let h : Answers (λ o. o ≡ Err f) (negative c.args.minus) ts =
    record { so = ap (λ o. and_then o in_range) (one_refused source a_number of ts none) } in
    record {
      reads = told f c.refuse-in_default-behind_minus.result
          c.refuse-in_default-behind_minus.ensures h.so;
      moves = tt;
    }

pub returns : goal.returns
unfolding negative
returns c =
    let ts = stream c.args.tokens.now in
    let of = λ (t : Token) (at : Span). negative_of t (across c.args.minus at) in
    let n = c.in-Some-behind_minus.negated in
    let place = across c.args.minus c.in-Some.field-0.span in
    let some =
    ap (value_of of) (sym c.in-Some.ensures.seen) ∙ sym (c.in-Some-behind_minus.ensures place) in
    let at : c.across.result ≡ place = cc in
    let h : Answers (λ o. Reads value_view o c.negative_value.result c.advance.new.self)
    (negative c.args.minus) ts =
    behind (one source a_number of) in_range (one_read source a_number of ts
    (negated_value n place) c.advance.new.self some c.advance.ensures.passes)
    (record {
      so =
          negated_reads n place c.negative_value.result c.advance.new.self (subst
          (λ p. IsNegative n p c.negative_value.result) at c.negative_value.ensures);
    }) in
    record {
      reads = h.so;
      moves = moved value_view
          (Moves-negative c.args.minus) ts c.negative_value.result c.advance.new.self h.so;
    }
