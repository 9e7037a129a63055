use Rattle.std.proofs.Common.{◌∷◌, [], List, map, ap, sym, ◌∙◌, refl}
use Rattle.protox_locate.specs.Declarations.{after_method_item, each, method_item_events, none}
use Rattle.protox_locate.specs.Collected.{meet, meets, state}
use Rattle.protox_locate.specs.Located.{Event, closing}
use Rattle.protox_locate.specs.declared.slot.Count.{Count}
use Rattle.protox_tree.specs.View.{method_item_view}
use Rattle.protox_tree.specs.declared.service.MethodItem.{MethodItem}
use Rattle.protox_locate.proofs.Meets.{all_met, meets_append, next_met}
use Rattle.protox_locate.proofs.services.method_body.Goals as goal

pub items-preserved : goal.items-preserved
items-preserved c =
    next_met (λ n x. method_item_events c.args.path.now n (method_item_view x)) (λ n x. after_method_item n (method_item_view x)) (λ n xs. each (method_item_events c.args.path.now) after_method_item n (map method_item_view xs)) (λ n x xs. refl)
    c.deref-item-items.result.now c.items.item-index c.item-item.result (state c.items.locator) (state c.method_item.new.locator) c.items.options c.method_item.new.options
    c.items-test.true c.item-item.is c.in_ok-method_item.ensures.located c.in_ok-method_item.ensures.counted
    ∙ c.items.invariant

pub returns : goal.returns
returns c =
    let path = c.args.path.now in
    let body = c.in-Some.body in
    let items = c.deref-item-items.result.now in
    let all : Count → List MethodItem → List Event = λ n xs. each (method_item_events c.args.path.now) after_method_item n (map method_item_view xs) in
    let inside_is = sym (all_met all (λ n. refl) items c.items.item-index (state c.items.locator) c.items.options c.items-test.false) ∙ c.items.invariant in
    rw c.in-Some.is (
    c.in_ok-leave.ensures ∙ ap (λ s. meet s (closing body.braces)) (inside_is ∙ ap (λ xs. meets (state c.args.locator.now) (all none xs)) c.deref-item-items.ensures.value)
    ∙ sym (meets_append (state c.args.locator.now) (all none body.items.items) (closing body.braces ∷ []))
    )
