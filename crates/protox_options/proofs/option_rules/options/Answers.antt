use Rattle.protox_lex.specs.Token.{sign}
use Rattle.protox_options.proofs.Behind.{Answers, behind, refused, last}
use Rattle.protox_options.proofs.OptionLaws.{Local-options}
use Rattle.protox_options.specs.OptionGrammar.{bodies, options, in_brackets}
use Rattle.protox_tokens.proofs.Local.{Keeps-local}
use Rattle.protox_tokens.specs.Parser.{eat, expect}
use Rattle.protox_tokens.specs.Reads.{Fails}
use Rattle.protox_tokens.specs.Span.{across}
use Rattle.protox_tokens.specs.Stream.{stream}
use Rattle.protox_tree.specs.Tree.{OptionList}
use Rattle.protox_tree.specs.View.{bodies_view}
use Rattle.std.proofs.Common.{◌≡◌, refl, Ok, Some, None}
use Rattle.std.proofs.lemmas.Result.{err_from_is_err_and}
use Rattle.protox_lex.specs.declared.token.Sign.TheVariants as s
use Rattle.protox_options.proofs.option_rules.options.Goals as goal

pub returns-in_default : goal.returns-in_default
unfolding options in_brackets
returns-in_default c =
    let h : Answers (λ o. o ≡ Ok (None, stream c.eat_sign.new.self)) options
    (stream c.args.tokens.now) =
    behind (eat (sign s.LeftBracket)) _ c.in_default.ensures.reads (last _ refl) in
    record { reads = h.so; moves = (Keeps-local Local-options).at _ _ _ h.so }

pub returns-in_err-options : goal.returns-in_err-options
unfolding options in_brackets
returns-in_err-options c =
    let p = err_from_is_err_and c.from_residual.result c.from_residual.ensures.1 in
    let e = c.in_err-options.field-0.0 in
    let within : Answers (Fails e) (in_brackets c.in-Some.open) (stream c.eat_sign.new.self) =
    refused bodies _ e c.in_err-options.ensures.reads in
    let h : Answers (Fails e) options (stream c.args.tokens.now) =
    behind (eat (sign s.LeftBracket)) _ c.in-Some.ensures.reads
    (refused (in_brackets c.in-Some.open) _ e within.so) in
    rw (p.1, p.2) (record { reads = h.so; moves = tt })

pub returns-in_err-close : goal.returns-in_err-close
unfolding options in_brackets
returns-in_err-close c =
    let r = c.from_residual-in_err-close in
    let p = err_from_is_err_and r.result r.ensures.1 in
    let e = c.in_err-close.field-0.0 in
    let within : Answers (Fails e) (in_brackets c.in-Some.open) (stream c.eat_sign.new.self) =
    behind bodies _ c.in_ok-options.ensures.reads
    (refused (expect (sign s.RightBracket)) _ e c.in_err-close.ensures.reads) in
    let h : Answers (Fails e) options (stream c.args.tokens.now) =
    behind (eat (sign s.LeftBracket)) _ c.in-Some.ensures.reads
    (refused (in_brackets c.in-Some.open) _ e within.so) in
    rw (p.1, p.2) (record { reads = h.so; moves = tt })

pub returns : goal.returns
unfolding options in_brackets
returns c =
    let x : OptionList = record {
      options = bodies_view c.in_ok-options.options.items;
      span = across c.in-Some.open c.in_ok-close.close;
    } in
    let within : Answers (λ o. o ≡ Ok (x, stream c.expect_sign.new.self))
    (in_brackets c.in-Some.open) (stream c.eat_sign.new.self) =
    behind bodies _ c.in_ok-options.ensures.reads
    (behind (expect (sign s.RightBracket)) _ c.in_ok-close.ensures.reads (last _ refl)) in
    let h : Answers (λ o. o ≡ Ok (Some x, stream c.expect_sign.new.self)) options
    (stream c.args.tokens.now) =
    behind (eat (sign s.LeftBracket)) _ c.in-Some.ensures.reads
    (behind (in_brackets c.in-Some.open) _ within.so (last _ refl)) in
    record { reads = rw c.across.ensures h.so; moves = (Keeps-local Local-options).at _ _ _ h.so }
