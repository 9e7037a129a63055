use Rattle.std.proofs.Common.{◌≡◌, map, take}
use Rattle.descriptor_records.specs.Content.{name_view}
use Rattle.protox_declaration_records.specs.OptionRecords.{name_part_of}
use Rattle.protox_declaration_records.proofs.option.name_parts.Given as goal

abbrev pub invariant-each : goal.invariant-each
invariant-each l = map name_view l.records.items ≡ map name_part_of (take l.part-index l.part-items)
