use Rattle.protox_lex.specs.Token.{ident, sign}
use Rattle.protox_options.proofs.Behind.{Answers, behind, refused, last}
use Rattle.protox_options.proofs.OptionLaws.{Moves-option}
use Rattle.protox_options.specs.OptionGrammar.{body, option}
use Rattle.protox_tokens.specs.Parser.{expect}
use Rattle.protox_tokens.specs.Reads.{Fails}
use Rattle.protox_tokens.specs.Span.{across}
use Rattle.protox_tokens.specs.Stream.{stream}
use Rattle.protox_tree.specs.Tree.{OptionStatement}
use Rattle.protox_tree.specs.View.{body_view}
use Rattle.std.proofs.Common.{◌≡◌, refl, Ok}
use Rattle.std.proofs.lemmas.Result.{err_from_is_err_and}
use Rattle.std.specs.Prelude.{codes}
use Rattle.protox_lex.specs.declared.token.Sign.TheVariants as s
use Rattle.protox_options.proofs.option_rules.option.Goals as goal

pub returns-in_err-first : goal.returns-in_err-first
unfolding option
returns-in_err-first c =
    let p = err_from_is_err_and c.from_residual.result c.from_residual.ensures.1 in
    let e = c.in_err-first.field-0.0 in
    let h : Answers (Fails e) option (stream c.args.tokens.now) =
    refused (expect (ident (codes "option"))) _ e c.in_err-first.ensures.reads in
    rw (p.1, p.2) (record { reads = h.so; moves = tt })

pub returns-in_err-body : goal.returns-in_err-body
unfolding option
returns-in_err-body c =
    let r = c.from_residual-in_err-body in
    let p = err_from_is_err_and r.result r.ensures.1 in
    let e = c.in_err-body.field-0.0 in
    let h : Answers (Fails e) option (stream c.args.tokens.now) =
    behind (expect (ident (codes "option"))) _ c.in_ok-first.ensures.reads
    (refused body _ e c.in_err-body.ensures.reads) in
    rw (p.1, p.2) (record { reads = h.so; moves = tt })

pub returns-in_err-last : goal.returns-in_err-last
unfolding option
returns-in_err-last c =
    let r = c.from_residual-in_err-last in
    let p = err_from_is_err_and r.result r.ensures.1 in
    let e = c.in_err-last.field-0.0 in
    let h : Answers (Fails e) option (stream c.args.tokens.now) =
    behind (expect (ident (codes "option"))) _ c.in_ok-first.ensures.reads
    (behind body _ c.in_ok-body.ensures.reads
    (refused (expect (sign s.Semicolon)) _ e c.in_err-last.ensures.reads)) in
    rw (p.1, p.2) (record { reads = h.so; moves = tt })

pub returns : goal.returns
unfolding option
returns c =
    let x : OptionStatement = record {
      body = body_view c.in_ok-body.body;
      span = across c.in_ok-first.first c.in_ok-last.last;
    } in
    let h : Answers (λ o. o ≡ Ok (x, stream c.expect_sign.new.self)) option
    (stream c.args.tokens.now) =
    behind (expect (ident (codes "option"))) _ c.in_ok-first.ensures.reads
    (behind body _ c.in_ok-body.ensures.reads
    (behind (expect (sign s.Semicolon)) _ c.in_ok-last.ensures.reads (last _ refl))) in
    record { reads = rw c.across.ensures h.so; moves = Moves-option.at _ _ _ h.so }
