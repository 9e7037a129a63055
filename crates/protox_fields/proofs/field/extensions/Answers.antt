use Rattle.protox_fields.proofs.FieldLaws.{Moves-extensions}
use Rattle.protox_fields.specs.FieldGrammar.{extensions}
use Rattle.protox_lex.specs.Token.{ident, sign}
use Rattle.protox_options.proofs.Behind.{Answers, behind, refused, last}
use Rattle.protox_options.specs.OptionGrammar.{options}
use Rattle.protox_options.specs.RangeGrammar.{ranges}
use Rattle.protox_tokens.specs.Parser.{expect}
use Rattle.protox_tokens.specs.Reads.{Fails}
use Rattle.protox_tokens.specs.Span.{across}
use Rattle.protox_tokens.specs.Stream.{stream}
use Rattle.protox_tree.specs.Nest.{Extensions}
use Rattle.protox_tree.specs.View.{option_list_view}
use Rattle.std.proofs.Common.{◌≡◌, refl, Ok}
use Rattle.std.proofs.lemmas.Result.{err_from_is_err_and}
use Rattle.std.specs.Prelude.{codes, option_map}
use Rattle.protox_lex.specs.declared.token.Sign.TheVariants as s
use Rattle.protox_fields.proofs.field.extensions.Goals as goal

pub returns-in_err-first : goal.returns-in_err-first
unfolding extensions
returns-in_err-first c =
    let p = err_from_is_err_and c.from_residual.result c.from_residual.ensures.1 in
    let e = c.in_err-first.field-0.0 in
    let h : Answers (Fails e) extensions (stream c.args.tokens.now) =
    refused (expect (ident (codes "extensions"))) _ e c.in_err-first.ensures.reads in
    rw (p.1, p.2) (record { reads = h.so; moves = tt })

pub returns-in_err-ranges : goal.returns-in_err-ranges
unfolding extensions
returns-in_err-ranges c =
    let p = err_from_is_err_and c.from_residual-in_err-ranges.result c.from_residual-in_err-ranges.ensures.1 in
    let e = c.in_err-ranges.field-0.0 in
    let h : Answers (Fails e) extensions (stream c.args.tokens.now) =
    behind (expect (ident (codes "extensions"))) _ c.in_ok-first.ensures.reads (refused ranges _ e c.in_err-ranges.ensures.reads) in
    rw (p.1, p.2) (record { reads = h.so; moves = tt })

pub returns-in_err-options : goal.returns-in_err-options
unfolding extensions
returns-in_err-options c =
    let p = err_from_is_err_and c.from_residual-in_err-options.result c.from_residual-in_err-options.ensures.1 in
    let e = c.in_err-options.field-0.0 in
    let h : Answers (Fails e) extensions (stream c.args.tokens.now) =
    behind (expect (ident (codes "extensions"))) _ c.in_ok-first.ensures.reads (behind ranges _ c.in_ok-ranges.ensures.reads (refused options _ e c.in_err-options.ensures.reads)) in
    rw (p.1, p.2) (record { reads = h.so; moves = tt })

pub returns-in_err-close : goal.returns-in_err-close
unfolding extensions
returns-in_err-close c =
    let p = err_from_is_err_and c.from_residual-in_err-close.result c.from_residual-in_err-close.ensures.1 in
    let e = c.in_err-close.field-0.0 in
    let h : Answers (Fails e) extensions (stream c.args.tokens.now) =
    behind (expect (ident (codes "extensions"))) _ c.in_ok-first.ensures.reads (behind ranges _ c.in_ok-ranges.ensures.reads (behind options _ c.in_ok-options.ensures.reads (refused (expect (sign s.Semicolon)) _ e c.in_err-close.ensures.reads))) in
    rw (p.1, p.2) (record { reads = h.so; moves = tt })

pub returns : goal.returns
unfolding extensions
returns c =
    let x : Extensions = record { ranges = c.in_ok-ranges.ranges.items; options = option_map option_list_view c.in_ok-options.options; span = across c.in_ok-first.first c.in_ok-close.close } in
    let h : Answers (λ o. o ≡ Ok (x, stream c.expect_sign.new.self)) extensions (stream c.args.tokens.now) =
    behind (expect (ident (codes "extensions"))) _ c.in_ok-first.ensures.reads (behind ranges _ c.in_ok-ranges.ensures.reads (behind options _ c.in_ok-options.ensures.reads (behind (expect (sign s.Semicolon)) _ c.in_ok-close.ensures.reads (last _ refl)))) in
    record { reads = rw c.across.ensures h.so; moves = Moves-extensions.at _ _ _ h.so }
