use Rattle.protox_declarations.proofs.ServiceLaws.{Moves-method_type}
use Rattle.protox_declarations.specs.ServiceGrammar.{method_type}
use Rattle.protox_lex.specs.Token.{ident, sign}
use Rattle.protox_options.proofs.Behind.{Answers, behind, refused, last}
use Rattle.protox_options.specs.NameGrammar.{type_name}
use Rattle.protox_tokens.specs.Parser.{eat, expect}
use Rattle.protox_tokens.specs.Reads.{Fails}
use Rattle.protox_tokens.specs.Stream.{stream}
use Rattle.protox_tree.specs.Tree.{MethodType}
use Rattle.protox_tree.specs.View.{type_name_view}
use Rattle.std.proofs.Common.{◌≡◌, refl, Ok}
use Rattle.std.proofs.lemmas.Result.{err_from_is_err_and}
use Rattle.std.specs.Prelude.{codes}
use Rattle.protox_lex.specs.declared.token.Sign.TheVariants as s
use Rattle.protox_declarations.proofs.services.method_type.Goals as goal

pub returns-in_err-expect_sign : goal.returns-in_err-expect_sign
unfolding method_type
returns-in_err-expect_sign c =
    let p = err_from_is_err_and c.from_residual.result c.from_residual.ensures.1 in
    let e = c.in_err-expect_sign.field-0.0 in
    let h : Answers (Fails e) method_type (stream c.args.tokens.now) =
    refused (expect (sign s.LeftParen)) _ e c.in_err-expect_sign.ensures.reads in
    rw (p.1, p.2) (record { reads = h.so; moves = tt })

pub returns-in_err-name : goal.returns-in_err-name
unfolding method_type
returns-in_err-name c =
    let r = c.from_residual-in_err-name in
    let p = err_from_is_err_and r.result r.ensures.1 in
    let e = c.in_err-name.field-0.0 in
    let h : Answers (Fails e) method_type (stream c.args.tokens.now) =
    behind (expect (sign s.LeftParen)) _ c.in_ok-expect_sign.ensures.reads
    (behind (eat (ident (codes "stream"))) _ c.eat-stream.ensures.reads
    (refused type_name _ e c.in_err-name.ensures.reads)) in
    rw (p.1, p.2) (record { reads = h.so; moves = tt })

pub returns-in_err-expect_sign-2 : goal.returns-in_err-expect_sign-2
unfolding method_type
returns-in_err-expect_sign-2 c =
    let r = c.from_residual-in_err-expect_sign-2 in
    let p = err_from_is_err_and r.result r.ensures.1 in
    let e = c.in_err-expect_sign-2.field-0.0 in
    let h : Answers (Fails e) method_type (stream c.args.tokens.now) =
    behind (expect (sign s.LeftParen)) _ c.in_ok-expect_sign.ensures.reads
    (behind (eat (ident (codes "stream"))) _ c.eat-stream.ensures.reads
    (behind type_name _ c.in_ok-name.ensures.reads
    (refused (expect (sign s.RightParen)) _ e c.in_err-expect_sign-2.ensures.reads))) in
    rw (p.1, p.2) (record { reads = h.so; moves = tt })

pub returns : goal.returns
unfolding method_type
returns c =
    let x : MethodType = record {
      stream = c.eat-stream.result;
      name = type_name_view c.in_ok-name.name;
    } in
    let h : Answers (λ o. o ≡ Ok (x, stream c.expect_sign-2.new.self)) method_type
    (stream c.args.tokens.now) =
    behind (expect (sign s.LeftParen)) _ c.in_ok-expect_sign.ensures.reads
    (behind (eat (ident (codes "stream"))) _ c.eat-stream.ensures.reads
    (behind type_name _ c.in_ok-name.ensures.reads
    (behind (expect (sign s.RightParen)) _ c.in_ok-expect_sign-2.ensures.reads (last _ refl)))) in
    record { reads = h.so; moves = Moves-method_type.at _ _ _ h.so }
