use Rattle.protox_fields.proofs.StatementLaws.{Moves-extend_head}
use Rattle.protox_fields.specs.StatementGrammar.{extend_head}
use Rattle.protox_lex.specs.Token.{ident, sign}
use Rattle.protox_lex.specs.declared.span.Span.{Span}
use Rattle.protox_options.proofs.Behind.{Answers, behind, refused, last}
use Rattle.protox_options.specs.NameGrammar.{type_name}
use Rattle.protox_tokens.specs.Parser.{expect}
use Rattle.protox_tokens.specs.Reads.{Fails}
use Rattle.protox_tokens.specs.Stream.{stream}
use Rattle.protox_tree.specs.Tree.{TypeName}
use Rattle.protox_tree.specs.View.{type_name_view}
use Rattle.std.proofs.Common.{◌≡◌, refl, Ok}
use Rattle.std.proofs.lemmas.Result.{err_from_is_err_and}
use Rattle.std.specs.Prelude.{codes}
use Rattle.protox_lex.specs.declared.token.Sign.TheVariants as s
use Rattle.protox_fields.proofs.statements.extend_head.Goals as goal

pub returns-in_err-first : goal.returns-in_err-first
unfolding extend_head
returns-in_err-first c =
    let p = err_from_is_err_and c.from_residual.result c.from_residual.ensures.1 in
    let e = c.in_err-first.field-0.0 in
    let h : Answers (Fails e) extend_head (stream c.args.tokens.now) =
    refused (expect (ident (codes "extend"))) _ e c.in_err-first.ensures.reads in
    rw (p.1, p.2) (record { reads = h.so; moves = tt })

pub returns-in_err-extendee : goal.returns-in_err-extendee
unfolding extend_head
returns-in_err-extendee c =
    let p = err_from_is_err_and c.from_residual-in_err-extendee.result c.from_residual-in_err-extendee.ensures.1 in
    let e = c.in_err-extendee.field-0.0 in
    let h : Answers (Fails e) extend_head (stream c.args.tokens.now) =
    behind (expect (ident (codes "extend"))) _ c.in_ok-first.ensures.reads (refused type_name _ e c.in_err-extendee.ensures.reads) in
    rw (p.1, p.2) (record { reads = h.so; moves = tt })

pub returns-in_err-open : goal.returns-in_err-open
unfolding extend_head
returns-in_err-open c =
    let p = err_from_is_err_and c.from_residual-in_err-open.result c.from_residual-in_err-open.ensures.1 in
    let e = c.in_err-open.field-0.0 in
    let h : Answers (Fails e) extend_head (stream c.args.tokens.now) =
    behind (expect (ident (codes "extend"))) _ c.in_ok-first.ensures.reads (behind type_name _ c.in_ok-extendee.ensures.reads (refused (expect (sign s.LeftBrace)) _ e c.in_err-open.ensures.reads)) in
    rw (p.1, p.2) (record { reads = h.so; moves = tt })

pub returns : goal.returns
unfolding extend_head
returns c =
    let x : Span × TypeName × Span = (c.in_ok-first.first, type_name_view c.in_ok-extendee.extendee, c.in_ok-open.open) in
    let h : Answers (λ o. o ≡ Ok (x, stream c.expect_sign.new.self)) extend_head (stream c.args.tokens.now) =
    behind (expect (ident (codes "extend"))) _ c.in_ok-first.ensures.reads (behind type_name _ c.in_ok-extendee.ensures.reads (behind (expect (sign s.LeftBrace)) _ c.in_ok-open.ensures.reads (last _ refl))) in
    record { reads = h.so; moves = Moves-extend_head.at _ _ _ h.so }
