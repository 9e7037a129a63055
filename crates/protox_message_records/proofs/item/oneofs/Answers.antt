use Rattle.std.proofs.Common.{◌≡◌, ◌∷◌, [], map, rules, refl, ap, sym, ◌∙◌}
use Rattle.descriptor_records.specs.Content.{oneof_view}
use Rattle.protox_field_records.proofs.Loops.{passed, taken}
use Rattle.protox_message_records.specs.MessageRecords.{oneof_at, oneof_of}
use Rattle.protox_tree.specs.declared.message.ExtendItem.TheViews.{out-MessageItem}
use Rattle.protox_tree.specs.declared.message.MessageItem.{the_lemmas}
use Rattle.protox_message_records.proofs.Items.{no_oneof}
use Rattle.protox_message_records.proofs.item.oneofs.Goals as goal

pub each-preserved-in_default : goal.each-preserved-in_default
each-preserved-in_default c =
    let x = c.item-item.result in
    let at : oneof_at x ≡ [] = no_oneof x (out-MessageItem x) refl c.in_default.not-Oneof in
    passed oneof_at c.deref-item-items.result.now (map oneof_view c.each.oneofs.items) c.each.item-index x c.each-test.true c.item-item.is at c.each.invariant

pub each-preserved : goal.each-preserved
each-preserved c =
    let x = c.item-item.result in
    let at : oneof_at x ≡ oneof_of c.in-Oneof.oneof ∷ [] = search (rules, the_lemmas) in
    rw c.in_ok-push.ensures.items (taken oneof_view oneof_at c.deref-item-items.result.now c.each.oneofs.items c.each.item-index x c.in_ok-oneof_record.field-0 c.each-test.true c.item-item.is (at ∙ ap (λ o. o ∷ []) (sym c.in_ok-oneof_record.ensures)) c.each.invariant)
