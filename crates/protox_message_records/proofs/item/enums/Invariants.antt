use Rattle.std.proofs.Common.{◌≡◌, map, take}
use Rattle.std.specs.List.{flat_map}
use Rattle.descriptor_records.specs.Content.{enum_view}
use Rattle.protox_message_records.specs.MessageRecords.{enum_at}
use Rattle.protox_message_records.proofs.item.enums.Given as goal

abbrev pub invariant-each : goal.invariant-each
invariant-each l = map enum_view l.enums.items ≡ flat_map enum_at (take l.item-index l.item-items)
