use Rattle.std.proofs.Common.{◌≡◌, map, take}
use Rattle.std.specs.List.{flat_map}
use Rattle.descriptor_records.specs.Content.{field_view}
use Rattle.protox_message_records.specs.MessageRecords.{extensions_at}
use Rattle.protox_message_records.proofs.item.own_extensions.Given as goal

abbrev pub invariant-each : goal.invariant-each
invariant-each l = map field_view l.fields.items ≡ flat_map extensions_at (take l.item-index l.item-items)
