use Rattle.std.proofs.Common.{◌≡◌, map, take}
use Rattle.std.specs.List.{flat_map}
use Rattle.descriptor_records.specs.Content.{oneof_view}
use Rattle.protox_message_records.specs.MessageRecords.{oneof_at}
use Rattle.protox_message_records.proofs.item.oneofs.Given as goal

abbrev pub invariant-each : goal.invariant-each
invariant-each l = map oneof_view l.oneofs.items ≡ flat_map oneof_at (take l.item-index l.item-items)
