use Rattle.protox_lex.specs.Token.{sign}
use Rattle.protox_options.proofs.Behind.{Answers, behind, refused, last}
use Rattle.protox_options.proofs.OptionLaws.{Moves-body}
use Rattle.protox_options.specs.OptionGrammar.{name, value, body}
use Rattle.protox_tokens.specs.Parser.{expect}
use Rattle.protox_tokens.specs.Reads.{Fails}
use Rattle.protox_tokens.specs.Stream.{stream}
use Rattle.protox_tree.specs.Tree.{Body}
use Rattle.protox_tree.specs.View.{name_view, value_view}
use Rattle.std.proofs.Common.{◌≡◌, refl, Ok}
use Rattle.std.proofs.lemmas.Result.{err_from_is_err_and}
use Rattle.protox_lex.specs.declared.token.Sign.TheVariants as s
use Rattle.protox_options.proofs.option_rules.body.Goals as goal

pub returns-in_err-name : goal.returns-in_err-name
unfolding body
returns-in_err-name c =
    let p = err_from_is_err_and c.from_residual.result c.from_residual.ensures.1 in
    let e = c.in_err-name.field-0.0 in
    let h : Answers (Fails e) body (stream c.args.tokens.now) =
    refused name _ e c.in_err-name.ensures.reads in
    rw (p.1, p.2) (record { reads = h.so; moves = tt })

pub returns-in_err-expect_sign : goal.returns-in_err-expect_sign
unfolding body
returns-in_err-expect_sign c =
    let r = c.from_residual-in_err-expect_sign in
    let p = err_from_is_err_and r.result r.ensures.1 in
    let e = c.in_err-expect_sign.field-0.0 in
    let h : Answers (Fails e) body (stream c.args.tokens.now) =
    behind name _ c.in_ok-name.ensures.reads
    (refused (expect (sign s.Equals)) _ e c.in_err-expect_sign.ensures.reads) in
    rw (p.1, p.2) (record { reads = h.so; moves = tt })

pub returns-in_err-value : goal.returns-in_err-value
unfolding body
returns-in_err-value c =
    let r = c.from_residual-in_err-value in
    let p = err_from_is_err_and r.result r.ensures.1 in
    let e = c.in_err-value.field-0.0 in
    let h : Answers (Fails e) body (stream c.args.tokens.now) =
    behind name _ c.in_ok-name.ensures.reads
    (behind (expect (sign s.Equals)) _ c.in_ok-expect_sign.ensures.reads
    (refused value _ e c.in_err-value.ensures.reads)) in
    rw (p.1, p.2) (record { reads = h.so; moves = tt })

pub returns : goal.returns
unfolding body
returns c =
    let x : Body = record {
      name = name_view c.in_ok-name.name.items;
      value = value_view c.in_ok-value.value;
    } in
    let h : Answers (λ o. o ≡ Ok (x, stream c.value.new.tokens)) body (stream c.args.tokens.now) =
    behind name _ c.in_ok-name.ensures.reads
    (behind (expect (sign s.Equals)) _ c.in_ok-expect_sign.ensures.reads
    (behind value _ c.in_ok-value.ensures.reads (last _ refl))) in
    record { reads = h.so; moves = Moves-body.at _ _ _ h.so }
