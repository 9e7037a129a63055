use Rattle.protox_lex.specs.Token.{sign}
use Rattle.protox_options.proofs.Behind.{Answers, behind, refused, last}
use Rattle.protox_options.proofs.OptionLaws.{Moves-name_part}
use Rattle.protox_options.specs.NameGrammar.{type_name}
use Rattle.protox_options.specs.OptionGrammar.{name_part, in_parens}
use Rattle.protox_tokens.specs.Parser.{eat, expect, word}
use Rattle.protox_tokens.specs.Reads.{Fails}
use Rattle.protox_tokens.specs.Span.{across}
use Rattle.protox_tokens.specs.Stream.{stream}
use Rattle.protox_tree.specs.Tree.{plain, extension}
use Rattle.protox_tree.specs.View.{ident_view, type_name_view}
use Rattle.std.proofs.Common.{◌≡◌, refl, Ok}
use Rattle.std.proofs.lemmas.Result.{err_from_is_err_and}
use Rattle.protox_lex.specs.declared.token.Sign.TheVariants as s
use Rattle.protox_options.proofs.option_rules.name_part.Goals as goal

pub returns-in_err-ident : goal.returns-in_err-ident
unfolding name_part in_parens
returns-in_err-ident c =
    let p = err_from_is_err_and c.from_residual.result c.from_residual.ensures.1 in
    let e = c.in_err-ident.field-0.0 in
    let h : Answers (Fails e) name_part (stream c.args.tokens.now) =
    behind (eat (sign s.LeftParen)) _ c.in_default.ensures.reads
    (refused word _ e c.in_err-ident.ensures.reads) in
    rw (p.1, p.2) (record { reads = h.so; moves = tt })

pub returns-in_default : goal.returns-in_default
unfolding name_part in_parens
returns-in_default c =
    let x = plain (ident_view c.in_ok-ident.ident) in
    let h : Answers (λ o. o ≡ Ok (x, stream c.ident.new.self)) name_part
    (stream c.args.tokens.now) =
    behind (eat (sign s.LeftParen)) _ c.in_default.ensures.reads
    (behind word _ c.in_ok-ident.ensures.reads (last _ refl)) in
    record { reads = h.so; moves = Moves-name_part.at _ _ _ h.so }

pub returns-in_err-name : goal.returns-in_err-name
unfolding name_part in_parens
returns-in_err-name c =
    let r = c.from_residual-in_err-name in
    let p = err_from_is_err_and r.result r.ensures.1 in
    let e = c.in_err-name.field-0.0 in
    let within : Answers (Fails e) (in_parens c.in-Some.open) (stream c.eat_sign.new.self) =
    refused type_name _ e c.in_err-name.ensures.reads in
    let h : Answers (Fails e) name_part (stream c.args.tokens.now) =
    behind (eat (sign s.LeftParen)) _ c.in-Some.ensures.reads
    (refused (in_parens c.in-Some.open) _ e within.so) in
    rw (p.1, p.2) (record { reads = h.so; moves = tt })

pub returns-in_err-close : goal.returns-in_err-close
unfolding name_part in_parens
returns-in_err-close c =
    let r = c.from_residual-in_err-close in
    let p = err_from_is_err_and r.result r.ensures.1 in
    let e = c.in_err-close.field-0.0 in
    let within : Answers (Fails e) (in_parens c.in-Some.open) (stream c.eat_sign.new.self) =
    behind type_name _ c.in_ok-name.ensures.reads
    (refused (expect (sign s.RightParen)) _ e c.in_err-close.ensures.reads) in
    let h : Answers (Fails e) name_part (stream c.args.tokens.now) =
    behind (eat (sign s.LeftParen)) _ c.in-Some.ensures.reads
    (refused (in_parens c.in-Some.open) _ e within.so) in
    rw (p.1, p.2) (record { reads = h.so; moves = tt })

pub returns : goal.returns
unfolding name_part in_parens
returns c =
    let within : Answers (λ o. o ≡ Ok (
      (type_name_view c.in_ok-name.name, across c.in-Some.open c.in_ok-close.close),
      stream
          c.expect_sign.new.self,
    )) (in_parens c.in-Some.open) (stream c.eat_sign.new.self) =
    behind type_name _ c.in_ok-name.ensures.reads
    (behind (expect (sign s.RightParen)) _ c.in_ok-close.ensures.reads (last _ refl)) in
    let x =
    extension (type_name_view c.in_ok-name.name) (across c.in-Some.open c.in_ok-close.close) in
    let h : Answers (λ o. o ≡ Ok (x, stream c.expect_sign.new.self)) name_part
    (stream c.args.tokens.now) =
    behind (eat (sign s.LeftParen)) _ c.in-Some.ensures.reads
    (behind (in_parens c.in-Some.open) _ within.so (last _ refl)) in
    record { reads = rw c.across.ensures h.so; moves = Moves-name_part.at _ _ _ h.so }
