use Rattle.protox_fields.proofs.FieldLaws.{Moves-numbered}
use Rattle.protox_fields.specs.FieldGrammar.{numbered_name}
use Rattle.protox_lex.specs.Token.{sign}
use Rattle.protox_lex.specs.declared.literal.Int.{Int}
use Rattle.protox_options.proofs.Behind.{Answers, behind, refused, last}
use Rattle.protox_options.specs.NameGrammar.{an_int}
use Rattle.protox_options.specs.OptionGrammar.{options}
use Rattle.protox_tokens.specs.Parser.{expect, word}
use Rattle.protox_tokens.specs.Reads.{Fails}
use Rattle.protox_tokens.specs.Stream.{stream}
use Rattle.protox_tree.specs.Tree.{Word, OptionList}
use Rattle.protox_tree.specs.View.{ident_view, option_list_view}
use Rattle.std.proofs.Common.{◌≡◌, Option, refl, Ok}
use Rattle.std.proofs.lemmas.Result.{err_from_is_err_and}
use Rattle.std.specs.Prelude.{option_map}
use Rattle.protox_lex.specs.declared.token.Sign.TheVariants as s
use Rattle.protox_fields.proofs.field.numbered_name.Goals as goal

pub returns-in_err-name : goal.returns-in_err-name
unfolding numbered_name
returns-in_err-name c =
    let p = err_from_is_err_and c.from_residual.result c.from_residual.ensures.1 in
    let e = c.in_err-name.field-0.0 in
    let h : Answers (Fails e) numbered_name (stream c.args.tokens.now) =
    refused word _ e c.in_err-name.ensures.reads in
    rw (p.1, p.2) (record { reads = h.so; moves = tt })

pub returns-in_err-expect_sign : goal.returns-in_err-expect_sign
unfolding numbered_name
returns-in_err-expect_sign c =
    let p = err_from_is_err_and c.from_residual-in_err-expect_sign.result c.from_residual-in_err-expect_sign.ensures.1 in
    let e = c.in_err-expect_sign.field-0.0 in
    let h : Answers (Fails e) numbered_name (stream c.args.tokens.now) =
    behind word _ c.in_ok-name.ensures.reads (refused (expect (sign s.Equals)) _ e c.in_err-expect_sign.ensures.reads) in
    rw (p.1, p.2) (record { reads = h.so; moves = tt })

pub returns-in_err-number : goal.returns-in_err-number
unfolding numbered_name
returns-in_err-number c =
    let p = err_from_is_err_and c.from_residual-in_err-number.result c.from_residual-in_err-number.ensures.1 in
    let e = c.in_err-number.field-0.0 in
    let h : Answers (Fails e) numbered_name (stream c.args.tokens.now) =
    behind word _ c.in_ok-name.ensures.reads (behind (expect (sign s.Equals)) _ c.in_ok-expect_sign.ensures.reads (refused an_int _ e c.in_err-number.ensures.reads)) in
    rw (p.1, p.2) (record { reads = h.so; moves = tt })

pub returns-in_err-options : goal.returns-in_err-options
unfolding numbered_name
returns-in_err-options c =
    let p = err_from_is_err_and c.from_residual-in_err-options.result c.from_residual-in_err-options.ensures.1 in
    let e = c.in_err-options.field-0.0 in
    let h : Answers (Fails e) numbered_name (stream c.args.tokens.now) =
    behind word _ c.in_ok-name.ensures.reads (behind (expect (sign s.Equals)) _ c.in_ok-expect_sign.ensures.reads (behind an_int _ c.in_ok-number.ensures.reads (refused options _ e c.in_err-options.ensures.reads))) in
    rw (p.1, p.2) (record { reads = h.so; moves = tt })

pub returns : goal.returns
unfolding numbered_name
returns c =
    let x : Word × Int × Option OptionList = (ident_view c.in_ok-name.name, c.in_ok-number.number, option_map option_list_view c.in_ok-options.options) in
    let h : Answers (λ o. o ≡ Ok (x, stream c.options.new.tokens)) numbered_name (stream c.args.tokens.now) =
    behind word _ c.in_ok-name.ensures.reads (behind (expect (sign s.Equals)) _ c.in_ok-expect_sign.ensures.reads (behind an_int _ c.in_ok-number.ensures.reads (behind options _ c.in_ok-options.ensures.reads (last _ refl)))) in
    record { reads = h.so; moves = Moves-numbered.at _ _ _ h.so }
