use Rattle.protox_declarations.proofs.EnumLaws.{Moves-item}
use Rattle.protox_declarations.specs.EnumGrammar.{an_enum_value, enum_item}
use Rattle.protox_lex.specs.Token.{ident, sign}
use Rattle.protox_options.proofs.Behind.{Answers, behind, refused, last}
use Rattle.protox_options.proofs.Choices.{chosen, passed}
use Rattle.protox_options.specs.OptionGrammar.{option}
use Rattle.protox_options.specs.RangeGrammar.{reserved}
use Rattle.protox_tokens.specs.Parser.{eat, sees}
use Rattle.protox_tokens.specs.Reads.{Fails}
use Rattle.protox_tokens.specs.Stream.{stream}
use Rattle.protox_tree.specs.Tree.{enum_value, enum_option, enum_reserved, enum_empty}
use Rattle.protox_tree.specs.View.{option_view, reserved_view, enum_value_view}
use Rattle.std.proofs.Common.{◌≡◌, ◌∙◌, sym, refl, Ok}
use Rattle.std.proofs.lemmas.Result.{err_from_is_err_and}
use Rattle.std.specs.Prelude.{codes}
use Rattle.protox_lex.specs.declared.token.Sign.TheVariants as s
use Rattle.protox_declarations.proofs.enums.item.Goals as goal

pub returns-in-Some : goal.returns-in-Some
unfolding enum_item
returns-in-Some c =
    let x = enum_empty c.in-Some.span in
    let h : Answers (λ o. o ≡ Ok (x, stream c.eat_sign.new.self)) enum_item
    (stream c.args.tokens.now) =
    behind (eat (sign s.Semicolon)) _ c.in-Some.ensures.reads (last _ refl) in
    record { reads = h.so; moves = Moves-item.at _ _ _ h.so }

pub returns-in_err-option : goal.returns-in_err-option
unfolding enum_item
returns-in_err-option c =
    let p = err_from_is_err_and c.from_residual.result c.from_residual.ensures.1 in
    let e = c.in_err-option.field-0.0 in
    let h : Answers (Fails e) enum_item (stream c.args.tokens.now) =
    behind (eat (sign s.Semicolon)) _ c.in_default.ensures.reads
    (chosen (sees (ident (codes "option"))) _ _ (sym c.sees.ensures ∙ c.if-sees.true)
    (refused option _ e c.in_err-option.ensures.reads)) in
    rw (p.1, p.2) (record { reads = h.so; moves = tt })

pub returns-then-sees : goal.returns-then-sees
unfolding enum_item
returns-then-sees c =
    let x = enum_option (option_view c.in_ok-option.option) in
    let h : Answers (λ o. o ≡ Ok (x, stream c.option.new.tokens)) enum_item
    (stream c.args.tokens.now) =
    behind (eat (sign s.Semicolon)) _ c.in_default.ensures.reads
    (chosen (sees (ident (codes "option"))) _ _ (sym c.sees.ensures ∙ c.if-sees.true)
    (behind option _ c.in_ok-option.ensures.reads (last _ refl))) in
    record { reads = h.so; moves = Moves-item.at _ _ _ h.so }

pub returns-in_err-reserved : goal.returns-in_err-reserved
unfolding enum_item
returns-in_err-reserved c =
    let r = c.from_residual-in_err-reserved in
    let p = err_from_is_err_and r.result r.ensures.1 in
    let e = c.in_err-reserved.field-0.0 in
    let h : Answers (Fails e) enum_item (stream c.args.tokens.now) =
    behind (eat (sign s.Semicolon)) _ c.in_default.ensures.reads
    (passed (sees (ident (codes "option"))) _ _ (sym c.sees.ensures ∙ c.if-sees.false)
    (chosen (sees (ident (codes "reserved"))) _ _ (sym c.sees-2.ensures ∙ c.if-sees-2.true)
    (refused reserved _ e c.in_err-reserved.ensures.reads))) in
    rw (p.1, p.2) (record { reads = h.so; moves = tt })

pub returns-then-sees-2 : goal.returns-then-sees-2
unfolding enum_item
returns-then-sees-2 c =
    let x = enum_reserved (reserved_view c.in_ok-reserved.reserved) in
    let h : Answers (λ o. o ≡ Ok (x, stream c.reserved.new.tokens)) enum_item
    (stream c.args.tokens.now) =
    behind (eat (sign s.Semicolon)) _ c.in_default.ensures.reads
    (passed (sees (ident (codes "option"))) _ _ (sym c.sees.ensures ∙ c.if-sees.false)
    (chosen (sees (ident (codes "reserved"))) _ _ (sym c.sees-2.ensures ∙ c.if-sees-2.true)
    (behind reserved _ c.in_ok-reserved.ensures.reads (last _ refl)))) in
    record { reads = h.so; moves = Moves-item.at _ _ _ h.so }

pub returns-in_err-value : goal.returns-in_err-value
unfolding enum_item
returns-in_err-value c =
    let r = c.from_residual-in_err-value in
    let p = err_from_is_err_and r.result r.ensures.1 in
    let e = c.in_err-value.field-0.0 in
    let h : Answers (Fails e) enum_item (stream c.args.tokens.now) =
    behind (eat (sign s.Semicolon)) _ c.in_default.ensures.reads
    (passed (sees (ident (codes "option"))) _ _ (sym c.sees.ensures ∙ c.if-sees.false)
    (passed (sees (ident (codes "reserved"))) _ _ (sym c.sees-2.ensures ∙ c.if-sees-2.false)
    (refused an_enum_value _ e c.in_err-value.ensures.reads))) in
    rw (p.1, p.2) (record { reads = h.so; moves = tt })

pub returns : goal.returns
unfolding enum_item
returns c =
    let x = enum_value (enum_value_view c.in_ok-value.value) in
    let h : Answers (λ o. o ≡ Ok (x, stream c.value.new.tokens)) enum_item
    (stream c.args.tokens.now) =
    behind (eat (sign s.Semicolon)) _ c.in_default.ensures.reads
    (passed (sees (ident (codes "option"))) _ _ (sym c.sees.ensures ∙ c.if-sees.false)
    (passed (sees (ident (codes "reserved"))) _ _ (sym c.sees-2.ensures ∙ c.if-sees-2.false)
    (behind an_enum_value _ c.in_ok-value.ensures.reads (last _ refl)))) in
    record { reads = h.so; moves = Moves-item.at _ _ _ h.so }
