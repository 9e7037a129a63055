use Rattle.std.proofs.Common.{◌≡◌, ◌∷◌, [], map, rules, refl, ap, sym, ◌∙◌}
use Rattle.descriptor_records.specs.Content.{enum_view}
use Rattle.protox_declaration_records.specs.EnumRecords.{enum_of}
use Rattle.protox_field_records.proofs.Loops.{passed, taken}
use Rattle.protox_message_records.specs.MessageRecords.{enum_at}
use Rattle.protox_tree.specs.declared.message.ExtendItem.TheViews.{out-MessageItem}
use Rattle.protox_tree.specs.declared.message.MessageItem.{the_lemmas}
use Rattle.protox_message_records.proofs.Items.{no_enum}
use Rattle.protox_message_records.proofs.item.enums.Goals as goal

pub each-preserved-in_default : goal.each-preserved-in_default
each-preserved-in_default c =
    let x = c.item-item.result in
    let at : enum_at x ≡ [] = no_enum x (out-MessageItem x) refl c.in_default.not-Enum in
    passed enum_at c.deref-item-items.result.now (map enum_view c.each.enums.items) c.each.item-index x c.each-test.true c.item-item.is at c.each.invariant

pub each-preserved : goal.each-preserved
each-preserved c =
    let x = c.item-item.result in
    let at : enum_at x ≡ enum_of c.in-Enum.enumeration ∷ [] = search (rules, the_lemmas) in
    rw c.in_ok-push.ensures.items (taken enum_view enum_at c.deref-item-items.result.now c.each.enums.items c.each.item-index x c.in_ok-enum_record.field-0 c.each-test.true c.item-item.is (at ∙ ap (λ o. o ∷ []) (sym c.in_ok-enum_record.ensures)) c.each.invariant)
