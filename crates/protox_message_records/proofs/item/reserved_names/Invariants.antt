use Rattle.std.proofs.Common.{◌≡◌, take}
use Rattle.std.specs.List.{flat_map}
use Rattle.descriptor_records.specs.Content.{texts_view}
use Rattle.protox_message_records.specs.MessageRecords.{reserved_names_at}
use Rattle.protox_message_records.proofs.item.reserved_names.Given as goal

abbrev pub invariant-each : goal.invariant-each
invariant-each l = texts_view l.names ≡ flat_map reserved_names_at (take l.item-index l.item-items)
