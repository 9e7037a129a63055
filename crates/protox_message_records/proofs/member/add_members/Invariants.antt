use Rattle.std.proofs.Common.{◌≡◌, ◌++◌, map, take}
use Rattle.std.specs.List.{flat_map}
use Rattle.descriptor_records.specs.Content.{field_view}
use Rattle.protox_message_records.specs.MessageRecords.{member_at}
use Rattle.protox_message_records.proofs.member.add_members.Given as goal

abbrev pub invariant-each : goal.invariant-each
invariant-each l = map field_view l.fields.items ≡ map field_view l.initial.fields.items ++ flat_map (member_at l.syntax l.place) (take l.item-index l.item-items)
