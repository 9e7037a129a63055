use Rattle.protox_fields.proofs.StatementLaws.{Moves-oneof_head}
use Rattle.protox_fields.specs.StatementGrammar.{oneof_head}
use Rattle.protox_lex.specs.Token.{ident, sign}
use Rattle.protox_lex.specs.declared.span.Span.{Span}
use Rattle.protox_options.proofs.Behind.{Answers, behind, refused, last}
use Rattle.protox_tokens.specs.Parser.{expect, word}
use Rattle.protox_tokens.specs.Reads.{Fails}
use Rattle.protox_tokens.specs.Stream.{stream}
use Rattle.protox_tree.specs.Tree.{Word}
use Rattle.protox_tree.specs.View.{ident_view}
use Rattle.std.proofs.Common.{◌≡◌, refl, Ok}
use Rattle.std.proofs.lemmas.Result.{err_from_is_err_and}
use Rattle.std.specs.Prelude.{codes}
use Rattle.protox_lex.specs.declared.token.Sign.TheVariants as s
use Rattle.protox_fields.proofs.statements.oneof_head.Goals as goal

pub returns-in_err-first : goal.returns-in_err-first
unfolding oneof_head
returns-in_err-first c =
    let p = err_from_is_err_and c.from_residual.result c.from_residual.ensures.1 in
    let e = c.in_err-first.field-0.0 in
    let h : Answers (Fails e) oneof_head (stream c.args.tokens.now) =
    refused (expect (ident (codes "oneof"))) _ e c.in_err-first.ensures.reads in
    rw (p.1, p.2) (record { reads = h.so; moves = tt })

pub returns-in_err-name : goal.returns-in_err-name
unfolding oneof_head
returns-in_err-name c =
    let p = err_from_is_err_and c.from_residual-in_err-name.result c.from_residual-in_err-name.ensures.1 in
    let e = c.in_err-name.field-0.0 in
    let h : Answers (Fails e) oneof_head (stream c.args.tokens.now) =
    behind (expect (ident (codes "oneof"))) _ c.in_ok-first.ensures.reads (refused word _ e c.in_err-name.ensures.reads) in
    rw (p.1, p.2) (record { reads = h.so; moves = tt })

pub returns-in_err-open : goal.returns-in_err-open
unfolding oneof_head
returns-in_err-open c =
    let p = err_from_is_err_and c.from_residual-in_err-open.result c.from_residual-in_err-open.ensures.1 in
    let e = c.in_err-open.field-0.0 in
    let h : Answers (Fails e) oneof_head (stream c.args.tokens.now) =
    behind (expect (ident (codes "oneof"))) _ c.in_ok-first.ensures.reads (behind word _ c.in_ok-name.ensures.reads (refused (expect (sign s.LeftBrace)) _ e c.in_err-open.ensures.reads)) in
    rw (p.1, p.2) (record { reads = h.so; moves = tt })

pub returns : goal.returns
unfolding oneof_head
returns c =
    let x : Span × Word × Span = (c.in_ok-first.first, ident_view c.in_ok-name.name, c.in_ok-open.open) in
    let h : Answers (λ o. o ≡ Ok (x, stream c.expect_sign.new.self)) oneof_head (stream c.args.tokens.now) =
    behind (expect (ident (codes "oneof"))) _ c.in_ok-first.ensures.reads (behind word _ c.in_ok-name.ensures.reads (behind (expect (sign s.LeftBrace)) _ c.in_ok-open.ensures.reads (last _ refl))) in
    record { reads = h.so; moves = Moves-oneof_head.at _ _ _ h.so }
