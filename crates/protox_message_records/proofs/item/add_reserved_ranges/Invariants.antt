use Rattle.std.proofs.Common.{◌≡◌, ◌++◌, map, take}
use Rattle.protox_message_records.specs.MessageRecords.{reserved_range_of}
use Rattle.protox_message_records.proofs.item.add_reserved_ranges.Given as goal

abbrev pub invariant-each : goal.invariant-each
invariant-each l = l.records.items ≡ l.initial.records.items ++ map reserved_range_of (take l.range-index l.range-items)
