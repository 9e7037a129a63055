use Rattle.std.proofs.Common.{◌≡◌, map, take}
use Rattle.std.specs.List.{flat_map}
use Rattle.descriptor_records.specs.Content.{option_view}
use Rattle.protox_field_records.specs.FieldRecords.{other_at}
use Rattle.protox_field_records.proofs.field.other_options.Given as goal

abbrev pub invariant-each : goal.invariant-each
invariant-each l = map option_view l.written.items ≡ flat_map other_at (take l.body-index l.bodies)
