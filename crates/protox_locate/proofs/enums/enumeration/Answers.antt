use Rattle.std.proofs.Common.{◌∷◌, [], List, map, ap, sym, ◌∙◌, refl}
use Rattle.descriptor_records.specs.declared.tag.enumeration.TheConstants as enums
use Rattle.protox_locate.specs.Declarations.{after_enum_item, each, enum_item_events, no_values}
use Rattle.protox_locate.specs.Collected.{meets, state}
use Rattle.protox_locate.specs.Located.{Event, closing, inside, part, statement}
use Rattle.protox_locate.specs.declared.enums.EnumCounts.{EnumCounts}
use Rattle.protox_tree.specs.View.{enum_item_view}
use Rattle.protox_tree.specs.declared.enumeration.EnumItem.{EnumItem}
use Rattle.protox_locate.proofs.Meets.{all_met, braced, next_met}
use Rattle.protox_locate.proofs.enums.enumeration.Goals as goal

pub items-preserved : goal.items-preserved
items-preserved c =
    next_met (λ n x. enum_item_events c.args.path.now n (enum_item_view x)) (λ n x. after_enum_item n (enum_item_view x)) (λ n xs. each (enum_item_events c.args.path.now) after_enum_item n (map enum_item_view xs)) (λ n x xs. refl)
    c.deref-item-items.result.now c.items.item-index c.item-item.result (state c.items.locator) (state c.enum_item.new.locator) c.items.counts c.enum_item.new.counts
    c.items-test.true c.item-item.is c.in_ok-enum_item.ensures.located c.in_ok-enum_item.ensures.counted
    ∙ c.items.invariant

pub returns : goal.returns
returns c =
    let path = c.args.path.now in
    let made = c.args.statement.now in
    let items = c.deref-item-items.result.now in
    let all : EnumCounts → List EnumItem → List Event = λ n xs. each (enum_item_events c.args.path.now) after_enum_item n (map enum_item_view xs) in
    let inside_is = sym (all_met all (λ n. refl) items c.items.item-index (state c.items.locator) c.items.counts c.items-test.false) ∙ c.items.invariant in
    braced (state c.args.locator.now) (state c.enter.new.self) (state c.add.new.self) (state c.items.locator) (state c.leave.new.self)
    (statement path [] made.span (inside made.braces)) (part path (enums.NAME ∷ []) made.name.span) (all no_values made.items.items) (closing made.braces)
    c.in_ok-enter.ensures c.in_ok-add.ensures (inside_is ∙ ap (λ xs. meets (state c.add.new.self) (all no_values xs)) c.deref-item-items.ensures.value) c.in_ok-leave.ensures
