use Rattle.std.proofs.Common.{◌≡◌, ◌++◌, map, take}
use Rattle.protox_declaration_records.specs.EnumRecords.{enum_range_of}
use Rattle.protox_declaration_records.proofs.enumeration.add_ranges.Given as goal

abbrev pub invariant-each : goal.invariant-each
invariant-each l = l.records.items ≡ l.initial.records.items ++ map enum_range_of (take l.range-index l.range-items)
