use Rattle.std.proofs.Common.{◌≡◌, take}
use Rattle.std.specs.List.{flat_map}
use Rattle.protox_declaration_records.specs.EnumRecords.{ranges_at}
use Rattle.protox_declaration_records.proofs.enumeration.reserved_ranges.Given as goal

abbrev pub invariant-each : goal.invariant-each
invariant-each l = l.ranges.items ≡ flat_map ranges_at (take l.item-index l.item-items)
