use Rattle.std.proofs.Common.{◌≡◌, rules, refl}
use Rattle.descriptor_records.specs.Content.{texts_view}
use Rattle.protox_declaration_records.specs.EnumRecords.{names_in}
use Rattle.protox_field_records.proofs.Loops.{passed}
use Rattle.protox_message_records.specs.MessageRecords.{reserved_names_at}
use Rattle.protox_tree.specs.declared.message.ExtendItem.TheViews.{out-MessageItem}
use Rattle.protox_tree.specs.declared.message.MessageItem.{the_lemmas}
use Rattle.protox_message_records.proofs.Items.{added, no_reserved}
use Rattle.protox_message_records.proofs.item.reserved_names.Goals as goal

pub each-preserved-in_default : goal.each-preserved-in_default
each-preserved-in_default c =
    let x = c.item-item.result in
    let none = no_reserved x (out-MessageItem x) refl c.in_default.not-Reserved in
    passed reserved_names_at c.deref-item-items.result.now (texts_view c.each.names) c.each.item-index x c.each-test.true c.item-item.is none.1 c.each.invariant

pub each-preserved : goal.each-preserved
each-preserved c =
    let x = c.item-item.result in
    let more = names_in c.in-Reserved.reserved.items in
    let at : reserved_names_at x ≡ more = search (rules, the_lemmas) in
    added reserved_names_at c.deref-item-items.result.now (texts_view c.each.names) (texts_view c.add_reserved_names.new.names) more c.each.item-index x c.each-test.true c.item-item.is at c.in_ok-add_reserved_names.ensures c.each.invariant
