use Rattle.std.proofs.Common.{◌≡◌, string_bytes, take}
use Rattle.std.specs.Option.{option_map}
use Rattle.protox_field_records.specs.FieldRecords.{json_name_of}
use Rattle.protox_field_records.proofs.field.json_name.Given as goal

abbrev pub invariant-each : goal.invariant-each
invariant-each l = option_map string_bytes l.name ≡ json_name_of (take l.body-index l.bodies)
