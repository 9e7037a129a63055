use Rattle.protox_declarations.proofs.EnumLaws.{Moves-value}
use Rattle.protox_declarations.specs.EnumGrammar.{an_enum_value}
use Rattle.protox_lex.specs.Token.{sign}
use Rattle.protox_options.proofs.Behind.{Answers, behind, refused, last}
use Rattle.protox_options.specs.NameGrammar.{an_int}
use Rattle.protox_options.specs.OptionGrammar.{options}
use Rattle.protox_tokens.specs.Parser.{expect, word}
use Rattle.protox_tokens.specs.Reads.{Fails}
use Rattle.protox_tokens.specs.Span.{across}
use Rattle.protox_tokens.specs.Stream.{stream}
use Rattle.protox_tree.specs.Tree.{EnumValue}
use Rattle.protox_tree.specs.View.{ident_view, option_list_view}
use Rattle.std.proofs.Common.{◌≡◌, refl, Ok}
use Rattle.std.proofs.lemmas.Result.{err_from_is_err_and}
use Rattle.std.specs.Prelude.{option_map}
use Rattle.protox_lex.specs.declared.token.Sign.TheVariants as s
use Rattle.protox_declarations.proofs.enums.value.Goals as goal

pub returns-in_err-name : goal.returns-in_err-name
unfolding an_enum_value
returns-in_err-name c =
    let p = err_from_is_err_and c.from_residual.result c.from_residual.ensures.1 in
    let e = c.in_err-name.field-0.0 in
    let h : Answers (Fails e) an_enum_value (stream c.args.tokens.now) =
    refused word _ e c.in_err-name.ensures.reads in
    rw (p.1, p.2) (record { reads = h.so; moves = tt })

pub returns-in_err-expect_sign : goal.returns-in_err-expect_sign
unfolding an_enum_value
returns-in_err-expect_sign c =
    let r = c.from_residual-in_err-expect_sign in
    let p = err_from_is_err_and r.result r.ensures.1 in
    let e = c.in_err-expect_sign.field-0.0 in
    let h : Answers (Fails e) an_enum_value (stream c.args.tokens.now) =
    behind word _ c.in_ok-name.ensures.reads
    (refused (expect (sign s.Equals)) _ e c.in_err-expect_sign.ensures.reads) in
    rw (p.1, p.2) (record { reads = h.so; moves = tt })

pub returns-in_err-number : goal.returns-in_err-number
unfolding an_enum_value
returns-in_err-number c =
    let r = c.from_residual-in_err-number in
    let p = err_from_is_err_and r.result r.ensures.1 in
    let e = c.in_err-number.field-0.0 in
    let h : Answers (Fails e) an_enum_value (stream c.args.tokens.now) =
    behind word _ c.in_ok-name.ensures.reads
    (behind (expect (sign s.Equals)) _ c.in_ok-expect_sign.ensures.reads
    (refused an_int _ e c.in_err-number.ensures.reads)) in
    rw (p.1, p.2) (record { reads = h.so; moves = tt })

pub returns-in_err-options : goal.returns-in_err-options
unfolding an_enum_value
returns-in_err-options c =
    let r = c.from_residual-in_err-options in
    let p = err_from_is_err_and r.result r.ensures.1 in
    let e = c.in_err-options.field-0.0 in
    let h : Answers (Fails e) an_enum_value (stream c.args.tokens.now) =
    behind word _ c.in_ok-name.ensures.reads
    (behind (expect (sign s.Equals)) _ c.in_ok-expect_sign.ensures.reads
    (behind an_int _ c.in_ok-number.ensures.reads
    (refused options _ e c.in_err-options.ensures.reads))) in
    rw (p.1, p.2) (record { reads = h.so; moves = tt })

pub returns-in_err-last : goal.returns-in_err-last
unfolding an_enum_value
returns-in_err-last c =
    let r = c.from_residual-in_err-last in
    let p = err_from_is_err_and r.result r.ensures.1 in
    let e = c.in_err-last.field-0.0 in
    let h : Answers (Fails e) an_enum_value (stream c.args.tokens.now) =
    behind word _ c.in_ok-name.ensures.reads
    (behind (expect (sign s.Equals)) _ c.in_ok-expect_sign.ensures.reads
    (behind an_int _ c.in_ok-number.ensures.reads (behind options _ c.in_ok-options.ensures.reads
    (refused (expect (sign s.Semicolon)) _ e c.in_err-last.ensures.reads)))) in
    rw (p.1, p.2) (record { reads = h.so; moves = tt })

pub returns : goal.returns
unfolding an_enum_value
returns c =
    let x : EnumValue = record {
      name = ident_view c.in_ok-name.name;
      number = c.in_ok-number.number;
      options = option_map option_list_view c.in_ok-options.options;
      span = across c.in_ok-name.name.span c.in_ok-last.last;
    } in
    let h : Answers (λ o. o ≡ Ok (x, stream c.expect_sign-2.new.self)) an_enum_value
    (stream c.args.tokens.now) =
    behind word _ c.in_ok-name.ensures.reads
    (behind (expect (sign s.Equals)) _ c.in_ok-expect_sign.ensures.reads
    (behind an_int _ c.in_ok-number.ensures.reads (behind options _ c.in_ok-options.ensures.reads
    (behind (expect (sign s.Semicolon)) _ c.in_ok-last.ensures.reads (last _ refl))))) in
    record { reads = rw c.across-span.ensures h.so; moves = Moves-value.at _ _ _ h.so }
