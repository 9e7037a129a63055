use Rattle.std.proofs.Common.{◌≡◌, ◌++◌, map, take}
use Rattle.std.specs.List.{flat_map}
use Rattle.descriptor_records.specs.Content.{field_view}
use Rattle.protox_field_records.specs.FieldRecords.{extension_at}
use Rattle.protox_field_records.proofs.field.extensions.Given as goal

abbrev pub invariant-each : goal.invariant-each
invariant-each l = map field_view l.records.items ≡ map field_view l.initial.records.items ++ flat_map (extension_at l.extend.extendee) (take l.item-index l.item-items)
