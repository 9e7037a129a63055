use Rattle.std.proofs.Common.{map, take, sym, subst}
use Rattle.std.specs.List.{flat_map}
use Rattle.descriptor_records.specs.Content.{message_view, messages_of}
use Rattle.protox_field_records.proofs.Loops.{next}
use Rattle.protox_message_records.proofs.Types.{adds_behind}
use Rattle.protox_message_records.specs.MessageRecords.{AreTypes}
use Rattle.protox_record.specs.FileRecords.{types_at}
use Rattle.protox_record.proofs.file.messages.Goals as goal

pub each-preserved : goal.each-preserved
each-preserved c =
    let s = c.args.syntax in
    let xs = c.deref-item-items.result.now in
    let i = c.each.item-index in
    subst (λ ts. AreTypes s ts (messages_of (map message_view c.add_types.new.types.items))) (sym (next types_at xs i c.item-item.result c.each-test.true c.item-item.is))
    (adds_behind s (flat_map types_at (take i xs)) _ _ _ c.each.invariant c.in_ok-add_types.ensures)
