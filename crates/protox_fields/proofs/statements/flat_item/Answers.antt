use Rattle.protox_fields.proofs.StatementLaws.{Keeps-flat}
use Rattle.protox_fields.specs.FieldGrammar.{extensions}
use Rattle.protox_fields.specs.StatementGrammar.{flat_item}
use Rattle.protox_lex.specs.Token.{ident}
use Rattle.protox_options.proofs.Behind.{Answers, behind, refused, last}
use Rattle.protox_options.proofs.Choices.{chosen, passed}
use Rattle.protox_options.specs.OptionGrammar.{option}
use Rattle.protox_options.specs.RangeGrammar.{reserved}
use Rattle.protox_tokens.specs.Parser.{sees}
use Rattle.protox_tokens.specs.Reads.{Fails}
use Rattle.protox_tokens.specs.Stream.{stream}
use Rattle.protox_tree.specs.Nest.{item_extensions, item_reserved, item_option}
use Rattle.protox_tree.specs.NestView.{extensions_view, item_view}
use Rattle.protox_tree.specs.View.{option_view, reserved_view}
use Rattle.protox_tree.specs.declared.message.MessageItem.{the_lemmas}
use Rattle.protox_tree.specs.declared.message.MessageItem.TheVariants as items
use Rattle.protox_tree.specs.declared.option.OptionStatement.{OptionStatement}
use Rattle.protox_tree.specs.declared.range.Extensions.{Extensions}
use Rattle.protox_tree.specs.declared.range.Reserved.{Reserved}
use Rattle.std.proofs.Common.{◌≡◌, ◌∙◌, None, Some, Ok, ap, refl, rules, sym}
use Rattle.std.proofs.lemmas.Result.{err_from_is_err_and}
use Rattle.std.specs.Prelude.{codes}
use Rattle.protox_fields.proofs.statements.flat_item.Goals as goal

item_extensions_is : (x : Extensions) → item_view (items.Extensions x) ≡ item_extensions (extensions_view x)
item_extensions_is x = search (rules, the_lemmas)

item_reserved_is : (x : Reserved) → item_view (items.Reserved x) ≡ item_reserved (reserved_view x)
item_reserved_is x = search (rules, the_lemmas)

item_option_is : (x : OptionStatement) → item_view (items.Option x) ≡ item_option (option_view x)
item_option_is x = search (rules, the_lemmas)

pub returns-in_err-extensions : goal.returns-in_err-extensions
unfolding flat_item
returns-in_err-extensions c =
    let p = err_from_is_err_and c.from_residual.result c.from_residual.ensures.1 in
    let e = c.in_err-extensions.field-0.0 in
    let h : Answers (Fails e) flat_item (stream c.args.tokens.now) =
    chosen (sees (ident (codes "extensions"))) _ _ (sym c.sees.ensures ∙ c.if-sees.true) (refused extensions _ e c.in_err-extensions.ensures.reads) in
    rw (p.1, p.2) (record { reads = h.so; moves = tt })

pub returns-then-sees : goal.returns-then-sees
unfolding flat_item
returns-then-sees c =
    let x = c.in_ok-extensions.extensions in
    let h : Answers (λ o. o ≡ Ok (Some (item_extensions (extensions_view x)), stream c.extensions.new.tokens)) flat_item (stream c.args.tokens.now) =
    chosen (sees (ident (codes "extensions"))) _ _ (sym c.sees.ensures ∙ c.if-sees.true) (behind extensions _ c.in_ok-extensions.ensures.reads (last _ refl)) in
    record { reads = h.so ∙ ap (λ i. Ok (Some i, stream c.extensions.new.tokens)) (sym (item_extensions_is x)); moves = Keeps-flat.at _ _ _ h.so }

pub returns-in_err-reserved : goal.returns-in_err-reserved
unfolding flat_item
returns-in_err-reserved c =
    let p = err_from_is_err_and c.from_residual-in_err-reserved.result c.from_residual-in_err-reserved.ensures.1 in
    let e = c.in_err-reserved.field-0.0 in
    let h : Answers (Fails e) flat_item (stream c.args.tokens.now) =
    passed (sees (ident (codes "extensions"))) _ _ (sym c.sees.ensures ∙ c.if-sees.false) (chosen (sees (ident (codes "reserved"))) _ _ (sym c.sees-2.ensures ∙ c.if-sees-2.true) (refused reserved _ e c.in_err-reserved.ensures.reads)) in
    rw (p.1, p.2) (record { reads = h.so; moves = tt })

pub returns-then-sees-2 : goal.returns-then-sees-2
unfolding flat_item
returns-then-sees-2 c =
    let x = c.in_ok-reserved.reserved in
    let h : Answers (λ o. o ≡ Ok (Some (item_reserved (reserved_view x)), stream c.reserved.new.tokens)) flat_item (stream c.args.tokens.now) =
    passed (sees (ident (codes "extensions"))) _ _ (sym c.sees.ensures ∙ c.if-sees.false) (chosen (sees (ident (codes "reserved"))) _ _ (sym c.sees-2.ensures ∙ c.if-sees-2.true) (behind reserved _ c.in_ok-reserved.ensures.reads (last _ refl))) in
    record { reads = h.so ∙ ap (λ i. Ok (Some i, stream c.reserved.new.tokens)) (sym (item_reserved_is x)); moves = Keeps-flat.at _ _ _ h.so }

pub returns-in_err-option : goal.returns-in_err-option
unfolding flat_item
returns-in_err-option c =
    let p = err_from_is_err_and c.from_residual-in_err-option.result c.from_residual-in_err-option.ensures.1 in
    let e = c.in_err-option.field-0.0 in
    let h : Answers (Fails e) flat_item (stream c.args.tokens.now) =
    passed (sees (ident (codes "extensions"))) _ _ (sym c.sees.ensures ∙ c.if-sees.false) (passed (sees (ident (codes "reserved"))) _ _ (sym c.sees-2.ensures ∙ c.if-sees-2.false) (chosen (sees (ident (codes "option"))) _ _ (sym c.sees-3.ensures ∙ c.if-sees-3.true) (refused option _ e c.in_err-option.ensures.reads))) in
    rw (p.1, p.2) (record { reads = h.so; moves = tt })

pub returns-then-sees-3 : goal.returns-then-sees-3
unfolding flat_item
returns-then-sees-3 c =
    let x = c.in_ok-option.option in
    let h : Answers (λ o. o ≡ Ok (Some (item_option (option_view x)), stream c.option.new.tokens)) flat_item (stream c.args.tokens.now) =
    passed (sees (ident (codes "extensions"))) _ _ (sym c.sees.ensures ∙ c.if-sees.false) (passed (sees (ident (codes "reserved"))) _ _ (sym c.sees-2.ensures ∙ c.if-sees-2.false) (chosen (sees (ident (codes "option"))) _ _ (sym c.sees-3.ensures ∙ c.if-sees-3.true) (behind option _ c.in_ok-option.ensures.reads (last _ refl)))) in
    record { reads = h.so ∙ ap (λ i. Ok (Some i, stream c.option.new.tokens)) (sym (item_option_is x)); moves = Keeps-flat.at _ _ _ h.so }

pub returns : goal.returns
unfolding flat_item
returns c =
    let h : Answers (λ o. o ≡ Ok (None, stream c.args.tokens.now)) flat_item (stream c.args.tokens.now) =
    passed (sees (ident (codes "extensions"))) _ _ (sym c.sees.ensures ∙ c.if-sees.false) (passed (sees (ident (codes "reserved"))) _ _ (sym c.sees-2.ensures ∙ c.if-sees-2.false) (passed (sees (ident (codes "option"))) _ _ (sym c.sees-3.ensures ∙ c.if-sees-3.false) (last _ refl))) in
    record { reads = h.so; moves = Keeps-flat.at _ _ _ h.so }
