use Rattle.std.proofs.Common.{map, take}
use Rattle.std.specs.List.{flat_map}
use Rattle.descriptor_records.specs.Content.{message_view, messages_of}
use Rattle.protox_message_records.specs.MessageRecords.{AddsTypes, AreTypes, types_at, types_of_added_item, types_of_member_item}
use Rattle.protox_message_records.proofs.message.+build.Given as goal

abbrev pub invariant-nested_types-each : goal.invariant-nested_types-each
invariant-nested_types-each l = AreTypes l.syntax (flat_map types_at (take l.item-index l.item-items)) (messages_of (map message_view l.types.items))

abbrev pub invariant-types_of_oneof-each : goal.invariant-types_of_oneof-each
invariant-types_of_oneof-each l = AddsTypes l.syntax (flat_map types_of_member_item (take l.item-index l.item-items)) (map message_view l.initial.types.items) (map message_view l.types.items)

abbrev pub invariant-types_of_extend-each : goal.invariant-types_of_extend-each
invariant-types_of_extend-each l = AddsTypes l.syntax (flat_map types_of_added_item (take l.item-index l.item-items)) (map message_view l.initial.types.items) (map message_view l.types.items)
