use Rattle.std.proofs.Common.{◌≡◌, map, rules, refl}
use Rattle.protox_declaration_records.specs.EnumRecords.{ranges_in}
use Rattle.protox_field_records.proofs.Loops.{passed}
use Rattle.protox_message_records.specs.MessageRecords.{reserved_range_of, reserved_ranges_at}
use Rattle.protox_tree.specs.declared.message.ExtendItem.TheViews.{out-MessageItem}
use Rattle.protox_tree.specs.declared.message.MessageItem.{the_lemmas}
use Rattle.protox_message_records.proofs.Items.{added, no_reserved}
use Rattle.protox_message_records.proofs.item.reserved_ranges.Goals as goal

pub each-preserved-in_default : goal.each-preserved-in_default
each-preserved-in_default c =
    let x = c.item-item.result in
    let none = no_reserved x (out-MessageItem x) refl c.in_default.not-Reserved in
    passed reserved_ranges_at c.deref-item-items.result.now (c.each.ranges.items) c.each.item-index x c.each-test.true c.item-item.is none.0 c.each.invariant

pub each-preserved : goal.each-preserved
each-preserved c =
    let x = c.item-item.result in
    let more = map reserved_range_of (ranges_in c.in-Reserved.reserved.items) in
    let at : reserved_ranges_at x ≡ more = search (rules, the_lemmas) in
    added reserved_ranges_at c.deref-item-items.result.now (c.each.ranges.items) (c.add_reserved_ranges.new.records.items) more c.each.item-index x c.each-test.true c.item-item.is at c.in_ok-add_reserved_ranges.ensures c.each.invariant
