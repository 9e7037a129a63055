use Rattle.std.proofs.Common.{◌≡◌, map, take}
use Rattle.std.specs.List.{flat_map}
use Rattle.descriptor_records.specs.Content.{extension_range_view}
use Rattle.protox_message_records.specs.MessageRecords.{extension_ranges_at}
use Rattle.protox_message_records.proofs.item.extension_ranges.Given as goal

abbrev pub invariant-each : goal.invariant-each
invariant-each l = map extension_range_view l.ranges.items ≡ flat_map extension_ranges_at (take l.item-index l.item-items)
