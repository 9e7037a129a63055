use Rattle.std.proofs.Common.{◌≡◌, ◌++◌, map, take}
use Rattle.descriptor_records.specs.Content.{extension_range_view}
use Rattle.protox_message_records.specs.MessageRecords.{extension_range_of}
use Rattle.protox_message_records.proofs.item.add_extension_ranges.Given as goal

abbrev pub invariant-each : goal.invariant-each
invariant-each l = map extension_range_view l.ranges.items ≡ map extension_range_view l.initial.ranges.items ++ map (extension_range_of l.extensions.options) (take l.range-index l.range-items)
