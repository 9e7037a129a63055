use Rattle.std.proofs.Common.{◌≡◌, ℤ, ◌∷◌, [], List, map, ap, sym, subst, ◌∙◌, refl, rules, w32, to_z, of_z}
use Rattle.protox_locate.specs.Declarations.{after_body, body_events, each, inner_span, none}
use Rattle.protox_locate.specs.Collected.{meet, meets, state}
use Rattle.protox_locate.specs.Located.{Event, part}
use Rattle.protox_locate.specs.declared.slot.Count.{Count}
use Rattle.protox_tree.specs.View.{body_view, option_list_view}
use Rattle.protox_tree.specs.declared.option.OptionBody.{OptionBody}
use Rattle.protox_locate.proofs.Meets.{all_met, next_met}
use Rattle.protox_locate.proofs.options.option_list.Goals as goal

pub bodies-preserved : goal.bodies-preserved
bodies-preserved c =
    let options = to_z w32 (of_z w32 c.args.options) in
    next_met (λ n x. body_events c.args.path.now options n (body_view x)) (λ n x. after_body n (body_view x))
    (λ n xs. each (body_events c.args.path.now options) after_body n (map body_view xs)) (λ n x xs. refl)
    c.deref-option-items.result.now c.bodies.option-index c.option-item.result (state c.bodies.locator) (state c.option_body.new.locator) c.bodies.count c.option_body.new.count
    c.bodies-test.true c.option-item.is c.in_ok-option_body.ensures.located c.in_ok-option_body.ensures.counted
    ∙ c.bodies.invariant

pub returns : goal.returns
returns c =
    let path = c.args.path.now in
    let options = to_z w32 (of_z w32 c.args.options) in
    let same : options ≡ c.args.options = search rules in
    let items = c.deref-option-items.result.now in
    let list = c.in-Some.list in
    let begun = part path (c.args.options ∷ []) (inner_span (option_list_view list)) in
    let add : state c.add.new.self ≡ meet (state c.args.locator.now) begun =
    subst (λ s. state c.add.new.self ≡ meet (state c.args.locator.now) (part path (c.args.options ∷ []) s)) c.inner_span.ensures (search rules) in
    let bodies : ℤ → List OptionBody → List Event = λ o xs. each (body_events path o) after_body none (map body_view xs) in
    rw c.in-Some.is (
    sym (all_met {A = OptionBody} (λ (n : Count) xs. each (body_events path options) after_body n (map body_view xs)) (λ n. refl) items c.bodies.option-index (state c.bodies.locator) c.bodies.count c.bodies-test.false)
    ∙ c.bodies.invariant ∙ ap (λ s. meets s (bodies options items)) add ∙ ap (λ xs. meets (meet (state c.args.locator.now) begun) (bodies options xs)) c.deref-option-items.ensures.value
    ∙ ap (λ o. meets (meet (state c.args.locator.now) begun) (bodies o list.options.items)) same
    )
