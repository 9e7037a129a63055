use Rattle.protox_declarations.proofs.ServiceLaws.{Moves-item}
use Rattle.protox_declarations.specs.ServiceGrammar.{a_method, service_item}
use Rattle.protox_lex.specs.Token.{ident, sign}
use Rattle.protox_options.proofs.Behind.{Answers, behind, refused, told, last}
use Rattle.protox_options.proofs.Choices.{chosen, passed}
use Rattle.protox_options.specs.OptionGrammar.{option}
use Rattle.protox_tokens.specs.Parser.{eat, sees}
use Rattle.protox_tokens.specs.Reads.{Fails}
use Rattle.protox_tokens.specs.Refusal.{a_service_item, refusal}
use Rattle.protox_tokens.specs.Stream.{stream, source}
use Rattle.protox_tree.specs.Tree.{service_method, service_option, service_empty}
use Rattle.protox_tree.specs.View.{option_view, method_view}
use Rattle.std.proofs.Common.{◌≡◌, ◌∙◌, sym, refl, Ok, Err}
use Rattle.std.proofs.lemmas.Result.{err_from_is_err_and}
use Rattle.std.specs.Prelude.{codes}
use Rattle.protox_lex.specs.declared.token.Sign.TheVariants as s
use Rattle.protox_declarations.proofs.services.item.Goals as goal

pub returns-in-Some : goal.returns-in-Some
unfolding service_item
returns-in-Some c =
    let x = service_empty c.in-Some.span in
    let h : Answers (λ o. o ≡ Ok (x, stream c.eat_sign.new.self)) service_item
    (stream c.args.tokens.now) =
    behind (eat (sign s.Semicolon)) _ c.in-Some.ensures.reads (last _ refl) in
    record { reads = h.so; moves = Moves-item.at _ _ _ h.so }

pub returns-in_err-option : goal.returns-in_err-option
unfolding service_item
returns-in_err-option c =
    let p = err_from_is_err_and c.from_residual.result c.from_residual.ensures.1 in
    let e = c.in_err-option.field-0.0 in
    let h : Answers (Fails e) service_item (stream c.args.tokens.now) =
    behind (eat (sign s.Semicolon)) _ c.in_default.ensures.reads
    (chosen (sees (ident (codes "option"))) _ _ (sym c.sees.ensures ∙ c.if-sees.true)
    (refused option _ e c.in_err-option.ensures.reads)) in
    rw (p.1, p.2) (record { reads = h.so; moves = tt })

pub returns-then-sees : goal.returns-then-sees
unfolding service_item
returns-then-sees c =
    let x = service_option (option_view c.in_ok-option.option) in
    let h : Answers (λ o. o ≡ Ok (x, stream c.option.new.tokens)) service_item
    (stream c.args.tokens.now) =
    behind (eat (sign s.Semicolon)) _ c.in_default.ensures.reads
    (chosen (sees (ident (codes "option"))) _ _ (sym c.sees.ensures ∙ c.if-sees.true)
    (behind option _ c.in_ok-option.ensures.reads (last _ refl))) in
    record { reads = h.so; moves = Moves-item.at _ _ _ h.so }

pub returns-in_err-method : goal.returns-in_err-method
unfolding service_item
returns-in_err-method c =
    let r = c.from_residual-in_err-method in
    let p = err_from_is_err_and r.result r.ensures.1 in
    let e = c.in_err-method.field-0.0 in
    let h : Answers (Fails e) service_item (stream c.args.tokens.now) =
    behind (eat (sign s.Semicolon)) _ c.in_default.ensures.reads
    (passed (sees (ident (codes "option"))) _ _ (sym c.sees.ensures ∙ c.if-sees.false)
    (chosen (sees (ident (codes "rpc"))) _ _ (sym c.sees-2.ensures ∙ c.if-sees-2.true)
    (refused a_method _ e c.in_err-method.ensures.reads))) in
    rw (p.1, p.2) (record { reads = h.so; moves = tt })

pub returns-then-sees-2 : goal.returns-then-sees-2
unfolding service_item
returns-then-sees-2 c =
    let x = service_method (method_view c.in_ok-method.method) in
    let h : Answers (λ o. o ≡ Ok (x, stream c.method.new.tokens)) service_item
    (stream c.args.tokens.now) =
    behind (eat (sign s.Semicolon)) _ c.in_default.ensures.reads
    (passed (sees (ident (codes "option"))) _ _ (sym c.sees.ensures ∙ c.if-sees.false)
    (chosen (sees (ident (codes "rpc"))) _ _ (sym c.sees-2.ensures ∙ c.if-sees-2.true)
    (behind a_method _ c.in_ok-method.ensures.reads (last _ refl)))) in
    record { reads = h.so; moves = Moves-item.at _ _ _ h.so }

pub returns : goal.returns
unfolding service_item
returns c =
    let f = refusal source a_service_item (stream c.eat_sign.new.self) in
    let h : Answers (λ o. o ≡ Err f) service_item (stream c.args.tokens.now) =
    behind (eat (sign s.Semicolon)) _ c.in_default.ensures.reads
    (passed (sees (ident (codes "option"))) _ _ (sym c.sees.ensures ∙ c.if-sees.false)
    (passed (sees (ident (codes "rpc"))) _ _ (sym c.sees-2.ensures ∙ c.if-sees-2.false)
    (record { so = refl }))) in
    record { reads = told f c.refuse.result c.refuse.ensures h.so; moves = tt }
