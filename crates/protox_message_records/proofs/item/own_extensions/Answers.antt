use Rattle.std.proofs.Common.{◌≡◌, map, rules, refl}
use Rattle.std.specs.List.{flat_map}
use Rattle.descriptor_records.specs.Content.{field_view}
use Rattle.protox_field_records.specs.FieldRecords.{extension_at}
use Rattle.protox_field_records.proofs.Loops.{passed}
use Rattle.protox_message_records.specs.MessageRecords.{extensions_at}
use Rattle.protox_tree.specs.declared.message.ExtendItem.TheViews.{out-MessageItem}
use Rattle.protox_tree.specs.declared.message.MessageItem.{the_lemmas}
use Rattle.protox_message_records.proofs.Items.{added, no_extend}
use Rattle.protox_message_records.proofs.item.own_extensions.Goals as goal

pub each-preserved-in_default : goal.each-preserved-in_default
each-preserved-in_default c =
    let x = c.item-item.result in
    let none = no_extend x (out-MessageItem x) refl c.in_default.not-Extend in
    passed extensions_at c.deref-item-items.result.now (map field_view c.each.fields.items) c.each.item-index x c.each-test.true c.item-item.is none c.each.invariant

pub each-preserved : goal.each-preserved
each-preserved c =
    let x = c.item-item.result in
    let more = flat_map (extension_at c.in-Extend.extend.extendee) c.in-Extend.extend.items.items in
    let at : extensions_at x ≡ more = search (rules, the_lemmas) in
    added extensions_at c.deref-item-items.result.now (map field_view c.each.fields.items) (map field_view c.extensions.new.records.items) more c.each.item-index x c.each-test.true c.item-item.is at c.in_ok-extensions.ensures c.each.invariant
