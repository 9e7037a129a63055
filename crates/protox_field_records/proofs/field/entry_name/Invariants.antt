use Rattle.std.proofs.Common.{◌≡◌, ◌++◌, true, drop, string_bytes}
use Rattle.std.specs.Prelude.{encode_utf8_all}
use Rattle.protox_field_records.specs.FieldRecords.{camel}
use Rattle.protox_field_records.proofs.field.entry_name.Given as goal

abbrev pub invariant-bytes : goal.invariant-bytes
invariant-bytes l = string_bytes l.name ++ encode_utf8_all (camel l.raise (drop l.b-index l.b-items)) ≡ encode_utf8_all (camel true l.b-items)
