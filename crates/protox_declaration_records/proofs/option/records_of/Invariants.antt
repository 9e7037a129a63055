use Rattle.std.proofs.Common.{◌≡◌, map, take}
use Rattle.descriptor_records.specs.Content.{option_view}
use Rattle.protox_declaration_records.specs.OptionRecords.{option_of}
use Rattle.protox_declaration_records.proofs.option.records_of.Given as goal

abbrev pub invariant-each : goal.invariant-each
invariant-each l = map option_view l.records.items ≡ map option_of (take l.body-index l.bodies)
