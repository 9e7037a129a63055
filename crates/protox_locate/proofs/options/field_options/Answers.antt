use Rattle.std.proofs.Common.{◌≡◌, ◌∷◌, [], List, map, ap, sym, subst, ◌∙◌, refl, rules}
use Rattle.descriptor_records.specs.declared.tag.field.TheConstants as fields
use Rattle.protox_locate.specs.Declarations.{after_field_option, each, field_option_events, inner_span, none}
use Rattle.protox_locate.specs.Collected.{meet, meets, state}
use Rattle.protox_locate.specs.Located.{Event, part}
use Rattle.protox_locate.specs.declared.slot.Count.{Count}
use Rattle.protox_tree.specs.View.{body_view, option_list_view}
use Rattle.protox_tree.specs.declared.option.OptionBody.{OptionBody}
use Rattle.protox_locate.proofs.Meets.{all_met, next_met}
use Rattle.protox_locate.proofs.options.field_options.Goals as goal

pub bodies-preserved : goal.bodies-preserved
bodies-preserved c =
    next_met (λ n x. field_option_events c.args.path.now n (body_view x)) (λ n x. after_field_option n (body_view x)) (λ n xs. each (field_option_events c.args.path.now) after_field_option n (map body_view xs)) (λ n x xs. refl)
    c.deref-option-items.result.now c.bodies.option-index c.option-item.result (state c.bodies.locator) (state c.field_option.new.locator) c.bodies.count c.field_option.new.count
    c.bodies-test.true c.option-item.is c.in_ok-field_option.ensures.located c.in_ok-field_option.ensures.counted
    ∙ c.bodies.invariant

pub returns : goal.returns
returns c =
    let path = c.args.path.now in
    let begun = part path (fields.OPTIONS ∷ []) (inner_span (option_list_view c.in-Some.list)) in
    let add : state c.add.new.self ≡ meet (state c.args.locator.now) begun =
    subst (λ s. state c.add.new.self ≡ meet (state c.args.locator.now) (part path (fields.OPTIONS ∷ []) s)) c.inner_span.ensures (search rules) in
    let items = c.deref-option-items.result.now in
    let all : Count → List OptionBody → List Event = λ n xs. each (field_option_events c.args.path.now) after_field_option n (map body_view xs) in
    let inside_is = sym (all_met all (λ n. refl) items c.bodies.option-index (state c.bodies.locator) c.bodies.count c.bodies-test.false) ∙ c.bodies.invariant in
    rw c.in-Some.is (inside_is ∙ ap (λ s. meets s (all none items)) add ∙ ap (λ xs. meets (meet (state c.args.locator.now) begun) (all none xs)) c.deref-option-items.ensures.value)
