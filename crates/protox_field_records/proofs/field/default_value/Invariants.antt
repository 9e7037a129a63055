use Rattle.std.proofs.Common.{◌≡◌, string_bytes, take}
use Rattle.std.specs.Option.{option_map}
use Rattle.protox_field_records.specs.FieldRecords.{default_of}
use Rattle.protox_tree.specs.NestView.{kind_view}
use Rattle.protox_field_records.proofs.field.default_value.Given as goal

abbrev pub invariant-each : goal.invariant-each
invariant-each l = option_map string_bytes l.value ≡ default_of (kind_view l.kind) (take l.body-index l.bodies)
