use Rattle.std.proofs.Common.{◌≡◌, ◌≤◌, ◌+◌, ◌-◌, ◌^◌, length, map, min, take}
use Rattle.std.specs.List.{flat_map}
use Rattle.descriptor_records.specs.Content.{field_view}
use Rattle.protox_message_records.specs.MessageRecords.{alone_at, fields_from, oneof_at}
use Rattle.protox_message_records.proofs.member.fields.Given as goal

abbrev pub invariant-each : goal.invariant-each
invariant-each l = record {
  next_is : l.next ≡ length (flat_map oneof_at (take l.item-index l.item-items));
  within : l.next ≤ l.item-index;
  behind_is : l.behind ≡ min (l.initial.behind + length (flat_map (alone_at l.syntax) (take l.item-index l.item-items))) (2 ^ 64 - 1);
  so_far : map field_view l.fields.items ≡ fields_from l.syntax 0 l.initial.behind (take l.item-index l.item-items);
}
