use Rattle.std.proofs.Common.{rules, ◌≡◌, ◌∙◌, length, Some, slice_get, true, sym, subst, refl}
use Rattle.std.specs.List.{AllWithin}
use Rattle.std.proofs.lemmas.Option.{get_or_from_slice_get, slice_get_read}
use Rattle.descriptor_records.specs.Content.{option_view}
use Rattle.descriptor_records.specs.declared.options.UninterpretedOption.{UninterpretedOption}
use Rattle.reflect_options.specs.Settled.{is_forbidden}
use Rattle.reflect_options.proofs.settled_options.check_forbidden.Goals as goal

pub returns-then-is_forbidden-clause-told : goal.returns-then-is_forbidden-clause-told
returns-then-is_forbidden-clause-told c =
    let xs = c.args.options.now.uninterpreted_option.items in
    let x = c.option-item.result in
    let at : slice_get xs c.options.place ≡ Some x = slice_get_read xs (length xs) c.options.place x refl (search rules) (search rules) in
    let is : is_forbidden c.args.scope (option_view x).name ≡ true = sym c.is_forbidden.ensures ∙ c.if-is_forbidden.true in
    let before = subst (λ l. AllWithin (λ (y : UninterpretedOption). is_forbidden c.args.scope (option_view y).name ≡ true → ⊥) l 0 c.options.place) c.deref-option-items.ensures.value c.options.invariant in
    let holds = λ (d : UninterpretedOption). subst (λ (o : UninterpretedOption). is_forbidden c.args.scope (option_view o).name ≡ true) (sym (get_or_from_slice_get xs c.options.place x d at)) is in
    ((search rules, (holds, before)), (x, at, c.in_ok-name.ensures))
