use Rattle.protox_aggregates.specs.AggregateGrammar.{aggregate}
use Rattle.protox_lex.specs.Token.{sign}
use Rattle.protox_options.proofs.Behind.{Answers, behind, refused, last}
use Rattle.protox_options.proofs.Choices.{chosen, passed}
use Rattle.protox_options.specs.NameGrammar.{strings}
use Rattle.protox_options.specs.OptionGrammar.{value}
use Rattle.protox_tokens.specs.Left.{left}
use Rattle.protox_tokens.specs.Parser.{eat, sees, is_string}
use Rattle.protox_tokens.specs.Reads.{Fails, Reads}
use Rattle.protox_tokens.specs.Stream.{stream}
use Rattle.protox_tree.specs.Tree.{strings_value, braces_value}
use Rattle.protox_tree.specs.View.{strings_view, value_view}
use Rattle.std.proofs.Common.{◌≡◌, ◌∙◌, sym, refl, arith, subst, Ok, ◌<◌, OnOk}
use Rattle.std.proofs.lemmas.Result.{err_from_is_err_and, on_ok_weaker}
use Rattle.std.specs.Prelude.{string_bytes}
use Rattle.protox_lex.specs.declared.token.Sign.TheVariants as s
use Rattle.protox_options.proofs.option_rules.value.Goals as goal

pub returns-in_err-strings : goal.returns-in_err-strings
unfolding value
returns-in_err-strings c =
    let p = err_from_is_err_and c.from_residual.result c.from_residual.ensures.1 in
    let e = c.in_err-strings.field-0.0 in
    let h : Answers (Fails e) value (stream c.args.tokens.now) =
    chosen is_string _ _ (sym c.is_string.ensures ∙ c.if-is_string.true)
    (refused strings _ e c.in_err-strings.ensures.reads) in
    rw (p.1, p.2) (record { reads = h.so; moves = tt })

pub returns-then-is_string : goal.returns-then-is_string
unfolding value
returns-then-is_string c =
    let x = strings_value (strings_view c.in_ok-strings.strings) in
    let h : Answers (λ o. o ≡ Ok (x, stream c.strings.new.tokens)) value
    (stream c.args.tokens.now) =
    chosen is_string _ _ (sym c.is_string.ensures ∙ c.if-is_string.true)
    (behind strings _ c.in_ok-strings.ensures.reads (last _ refl)) in
    record { reads = h.so; moves = c.in_ok-strings.ensures.moves }

pub returns-in-Some : goal.returns-in-Some
unfolding value
returns-in-Some c =
    let h : Answers (λ o. Reads value_view o c.negative.result c.negative.new.tokens) value
    (stream c.args.tokens.now) =
    passed is_string _ _ (sym c.is_string.ensures ∙ c.if-is_string.false)
    (behind (eat (sign s.Minus)) _ c.in-Some.ensures.reads
    (record { so = c.negative.ensures.reads })) in
    record {
      reads = h.so;
      moves = on_ok_weaker c.negative.result (λ h. omega
          (arith, h, c.in-Some.ensures.some)) c.negative.ensures.moves;
    }

pub returns-in_err-aggregate : goal.returns-in_err-aggregate
unfolding value
returns-in_err-aggregate c =
    let r = c.from_residual-in_err-aggregate in
    let p = err_from_is_err_and r.result r.ensures.1 in
    let e = c.in_err-aggregate.field-0.0 in
    let h : Answers (Fails e) value (stream c.args.tokens.now) =
    passed is_string _ _ (sym c.is_string.ensures ∙ c.if-is_string.false)
    (behind (eat (sign s.Minus)) _ c.in_default.ensures.reads
    (chosen (sees (sign s.LeftBrace)) _ _ (sym c.sees_sign.ensures ∙ c.if-sees_sign.true)
    (refused aggregate _ e c.in_err-aggregate.ensures.reads))) in
    rw (p.1, p.2) (record { reads = h.so; moves = tt })

pub returns-then-sees_sign : goal.returns-then-sees_sign
unfolding value
returns-then-sees_sign c =
    let x =
    braces_value
    (string_bytes c.in_ok-aggregate.aggregate.text) c.in_ok-aggregate.aggregate.span in
    let h : Answers (λ o. o ≡ Ok (x, stream c.aggregate.new.tokens)) value
    (stream c.args.tokens.now) =
    passed is_string _ _ (sym c.is_string.ensures ∙ c.if-is_string.false)
    (behind (eat (sign s.Minus)) _ c.in_default.ensures.reads
    (chosen (sees (sign s.LeftBrace)) _ _ (sym c.sees_sign.ensures ∙ c.if-sees_sign.true)
    (behind aggregate _ c.in_ok-aggregate.ensures.reads (last _ refl)))) in
    record {
      reads = h.so;
      moves = subst
          (λ n. left c.aggregate.new.tokens < n) c.in_default.ensures.none
          c.in_ok-aggregate.ensures.moves;
    }

pub returns : goal.returns
unfolding value
returns c =
    let h : Answers (λ o. Reads value_view o c.plain_value.result c.plain_value.new.tokens) value
    (stream c.args.tokens.now) =
    passed is_string _ _ (sym c.is_string.ensures ∙ c.if-is_string.false)
    (behind (eat (sign s.Minus)) _ c.in_default.ensures.reads
    (passed (sees (sign s.LeftBrace)) _ _ (sym c.sees_sign.ensures ∙ c.if-sees_sign.false)
    (record { so = c.plain_value.ensures.reads }))) in
    record {
      reads = h.so;
      moves = subst (λ n. OnOk c.plain_value.result
          (left c.plain_value.new.tokens < n)) c.in_default.ensures.none c.plain_value.ensures.moves;
    }
