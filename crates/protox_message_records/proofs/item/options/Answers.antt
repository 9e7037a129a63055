use Rattle.std.proofs.Common.{◌≡◌, ◌∷◌, [], map, rules, refl, ap, sym, ◌∙◌}
use Rattle.descriptor_records.specs.Content.{option_view}
use Rattle.protox_declaration_records.specs.OptionRecords.{option_of}
use Rattle.protox_field_records.proofs.Loops.{passed, taken}
use Rattle.protox_message_records.specs.MessageRecords.{option_at}
use Rattle.protox_tree.specs.declared.message.ExtendItem.TheViews.{out-MessageItem}
use Rattle.protox_tree.specs.declared.message.MessageItem.{the_lemmas}
use Rattle.protox_message_records.proofs.Items.{no_option}
use Rattle.protox_message_records.proofs.item.options.Goals as goal

pub each-preserved-in_default : goal.each-preserved-in_default
each-preserved-in_default c =
    let x = c.item-item.result in
    let at : option_at x ≡ [] = no_option x (out-MessageItem x) refl c.in_default.not-Option in
    passed option_at c.deref-item-items.result.now (map option_view c.each.written.items) c.each.item-index x c.each-test.true c.item-item.is at c.each.invariant

pub each-preserved : goal.each-preserved
each-preserved c =
    let x = c.item-item.result in
    let at : option_at x ≡ option_of c.in-Option.option.body ∷ [] = search (rules, the_lemmas) in
    rw c.in_ok-push.ensures.items (taken option_view option_at c.deref-item-items.result.now c.each.written.items c.each.item-index x c.in_ok-option_record.field-0 c.each-test.true c.item-item.is (at ∙ ap (λ o. o ∷ []) (sym c.in_ok-option_record.ensures)) c.each.invariant)
