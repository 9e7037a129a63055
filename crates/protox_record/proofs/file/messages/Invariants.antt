use Rattle.std.proofs.Common.{map, take}
use Rattle.std.specs.List.{flat_map}
use Rattle.descriptor_records.specs.Content.{message_view, messages_of}
use Rattle.protox_record.specs.FileRecords.{types_at}
use Rattle.protox_message_records.specs.MessageRecords.{AreTypes}
use Rattle.protox_record.proofs.file.messages.Given as goal

abbrev pub invariant-each : goal.invariant-each
invariant-each l = AreTypes l.syntax (flat_map types_at (take l.item-index l.item-items)) (messages_of (map message_view l.types.items))
