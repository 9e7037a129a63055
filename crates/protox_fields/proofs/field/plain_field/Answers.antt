use Rattle.protox_fields.proofs.FieldLaws.{Moves-plain}
use Rattle.protox_fields.proofs.FieldParts.{field_parts}
use Rattle.protox_fields.proofs.NumberedName.{numbered_behind, numbered_refused}
use Rattle.protox_fields.specs.FieldGrammar.{field_type, plain_field}
use Rattle.protox_fields.specs.PlainView.{plain_view}
use Rattle.protox_lex.specs.Token.{sign}
use Rattle.protox_options.proofs.Behind.{Answers, behind, refused, last}
use Rattle.protox_tokens.specs.Parser.{expect}
use Rattle.protox_tokens.specs.Reads.{Fails}
use Rattle.protox_tokens.specs.Span.{across}
use Rattle.protox_tokens.specs.Stream.{stream}
use Rattle.protox_tree.specs.Nest.{Kind, Field, field}
use Rattle.protox_tree.specs.View.{ident_view, option_list_view}
use Rattle.std.proofs.Common.{◌≡◌, ◌∙◌, ap, sym, refl, Ok}
use Rattle.std.proofs.lemmas.Result.{err_from_is_err_and}
use Rattle.std.specs.Prelude.{option_map}
use Rattle.protox_lex.specs.declared.token.Sign.TheVariants as s
use Rattle.protox_fields.proofs.field.plain_field.Goals as goal

pub returns-in_err-kind : goal.returns-in_err-kind
unfolding plain_field
returns-in_err-kind c =
    let p = err_from_is_err_and c.from_residual.result c.from_residual.ensures.1 in
    let e = c.in_err-kind.field-0.0 in
    let h : Answers (Fails e) (plain_field c.args.start c.args.label) (stream c.args.tokens.now) =
    refused field_type _ e c.in_err-kind.ensures.reads in
    rw (p.1, p.2) (record { reads = h.so; moves = tt })

pub returns-in_err-name : goal.returns-in_err-name
unfolding plain_field
returns-in_err-name c =
    let p = err_from_is_err_and c.from_residual-in_err-name.result c.from_residual-in_err-name.ensures.1 in
    let e = c.in_err-name.field-0.0 in
    let h : Answers (Fails e) (plain_field c.args.start c.args.label) (stream c.args.tokens.now) =
    behind field_type _ c.in_ok-kind.ensures.reads (numbered_refused _ e c.in_err-name.ensures.reads) in
    rw (p.1, p.2) (record { reads = h.so; moves = tt })

pub returns-in_err-last : goal.returns-in_err-last
unfolding plain_field
returns-in_err-last c =
    let p = err_from_is_err_and c.from_residual-in_err-last.result c.from_residual-in_err-last.ensures.1 in
    let e = c.in_err-last.field-0.0 in
    let h : Answers (Fails e) (plain_field c.args.start c.args.label) (stream c.args.tokens.now) =
    behind field_type _ c.in_ok-kind.ensures.reads (numbered_behind _ c.in_ok-name.ensures.reads
    (refused (expect (sign s.Semicolon)) _ e c.in_err-last.ensures.reads)) in
    rw (p.1, p.2) (record { reads = h.so; moves = tt })

pub returns : goal.returns
unfolding plain_field
returns c =
    let n = c.in_ok-name in
    let made : Kind → Field = λ k. field c.args.label k (ident_view n.name) n.number (option_map option_list_view n.options) (across c.args.start c.in_ok-last.last) in
    let h : Answers (λ o. o ≡ Ok (made (plain_view c.in_ok-kind.kind), stream c.expect_sign.new.self)) (plain_field c.args.start c.args.label) (stream c.args.tokens.now) =
    behind field_type _ c.in_ok-kind.ensures.reads (numbered_behind _ n.ensures.reads
    (behind (expect (sign s.Semicolon)) _ c.in_ok-last.ensures.reads (last _ refl))) in
    record {
      reads = rw c.across.ensures (h.so ∙ ap (λ x. Ok (x, stream c.expect_sign.new.self)) (sym (field_parts _ ∙ ap made c.into_kind.ensures)));
      moves = (Moves-plain c.args.start c.args.label).at _ _ _ h.so;
    }
