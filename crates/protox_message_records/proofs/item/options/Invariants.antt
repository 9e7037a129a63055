use Rattle.std.proofs.Common.{◌≡◌, map, take}
use Rattle.std.specs.List.{flat_map}
use Rattle.descriptor_records.specs.Content.{option_view}
use Rattle.protox_message_records.specs.MessageRecords.{option_at}
use Rattle.protox_message_records.proofs.item.options.Given as goal

abbrev pub invariant-each : goal.invariant-each
invariant-each l = map option_view l.written.items ≡ flat_map option_at (take l.item-index l.item-items)
