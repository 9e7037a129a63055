use Rattle.std.proofs.Common.{◌≡◌, take}
use Rattle.std.specs.List.{flat_map}
use Rattle.protox_message_records.specs.MessageRecords.{reserved_ranges_at}
use Rattle.protox_message_records.proofs.item.reserved_ranges.Given as goal

abbrev pub invariant-each : goal.invariant-each
invariant-each l = l.ranges.items ≡ flat_map reserved_ranges_at (take l.item-index l.item-items)
