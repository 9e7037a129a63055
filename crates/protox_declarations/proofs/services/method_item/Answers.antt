use Rattle.protox_declarations.proofs.ServiceLaws.{Moves-method_item}
use Rattle.protox_declarations.specs.ServiceGrammar.{method_item}
use Rattle.protox_lex.specs.Token.{sign}
use Rattle.protox_options.proofs.Behind.{Answers, behind, refused, last}
use Rattle.protox_options.specs.OptionGrammar.{option}
use Rattle.protox_tokens.specs.Parser.{eat}
use Rattle.protox_tokens.specs.Reads.{Fails}
use Rattle.protox_tokens.specs.Stream.{stream}
use Rattle.protox_tree.specs.Tree.{method_option, method_empty}
use Rattle.protox_tree.specs.View.{option_view}
use Rattle.std.proofs.Common.{◌≡◌, refl, Ok}
use Rattle.std.proofs.lemmas.Result.{err_from_is_err_and}
use Rattle.protox_lex.specs.declared.token.Sign.TheVariants as s
use Rattle.protox_declarations.proofs.services.method_item.Goals as goal

pub returns-in-Some : goal.returns-in-Some
unfolding method_item
returns-in-Some c =
    let x = method_empty c.in-Some.span in
    let h : Answers (λ o. o ≡ Ok (x, stream c.eat_sign.new.self)) method_item
    (stream c.args.tokens.now) =
    behind (eat (sign s.Semicolon)) _ c.in-Some.ensures.reads (last _ refl) in
    record { reads = h.so; moves = Moves-method_item.at _ _ _ h.so }

pub returns-in_err-option : goal.returns-in_err-option
unfolding method_item
returns-in_err-option c =
    let p = err_from_is_err_and c.from_residual.result c.from_residual.ensures.1 in
    let e = c.in_err-option.field-0.0 in
    let h : Answers (Fails e) method_item (stream c.args.tokens.now) =
    behind (eat (sign s.Semicolon)) _ c.in_default.ensures.reads
    (refused option _ e c.in_err-option.ensures.reads) in
    rw (p.1, p.2) (record { reads = h.so; moves = tt })

pub returns : goal.returns
unfolding method_item
returns c =
    let x = method_option (option_view c.in_ok-option.option) in
    let h : Answers (λ o. o ≡ Ok (x, stream c.option.new.tokens)) method_item
    (stream c.args.tokens.now) =
    behind (eat (sign s.Semicolon)) _ c.in_default.ensures.reads
    (behind option _ c.in_ok-option.ensures.reads (last _ refl)) in
    record { reads = h.so; moves = Moves-method_item.at _ _ _ h.so }
