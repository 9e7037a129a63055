use Rattle.std.proofs.Common.{◌≡◌, map, take}
use Rattle.std.specs.List.{flat_map}
use Rattle.descriptor_records.specs.Content.{enum_value_view}
use Rattle.protox_declaration_records.specs.EnumRecords.{value_at}
use Rattle.protox_declaration_records.proofs.enumeration.values.Given as goal

abbrev pub invariant-each : goal.invariant-each
invariant-each l = map enum_value_view l.values.items ≡ flat_map value_at (take l.item-index l.item-items)
