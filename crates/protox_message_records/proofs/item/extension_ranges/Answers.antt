use Rattle.std.proofs.Common.{◌≡◌, map, rules, refl}
use Rattle.descriptor_records.specs.Content.{extension_range_view}
use Rattle.protox_field_records.proofs.Loops.{passed}
use Rattle.protox_message_records.specs.MessageRecords.{extension_range_of, extension_ranges_at}
use Rattle.protox_tree.specs.declared.message.ExtendItem.TheViews.{out-MessageItem}
use Rattle.protox_tree.specs.declared.message.MessageItem.{the_lemmas}
use Rattle.protox_message_records.proofs.Items.{added, no_extensions}
use Rattle.protox_message_records.proofs.item.extension_ranges.Goals as goal

pub each-preserved-in_default : goal.each-preserved-in_default
each-preserved-in_default c =
    let x = c.item-item.result in
    let none = no_extensions x (out-MessageItem x) refl c.in_default.not-Extensions in
    passed extension_ranges_at c.deref-item-items.result.now (map extension_range_view c.each.ranges.items) c.each.item-index x c.each-test.true c.item-item.is none c.each.invariant

pub each-preserved : goal.each-preserved
each-preserved c =
    let x = c.item-item.result in
    let more = map (extension_range_of c.in-Extensions.extensions.options) c.in-Extensions.extensions.ranges.items in
    let at : extension_ranges_at x ≡ more = search (rules, the_lemmas) in
    added extension_ranges_at c.deref-item-items.result.now (map extension_range_view c.each.ranges.items) (map extension_range_view c.add_extension_ranges.new.ranges.items) more c.each.item-index x c.each-test.true c.item-item.is at c.in_ok-add_extension_ranges.ensures c.each.invariant
