-- Records without where they lie in memory.
use Rattle.std.specs.Prelude.{ℕ, List, [], ◌∷◌, map}
use Rattle.reflect_wire.specs.declared.unknown.UnknownField.{UnknownField}
use Rattle.reflect_wire.specs.declared.unknown.UnknownFieldSet.{UnknownFieldSet}
use Rattle.reflect_wire.specs.declared.unknown.UnknownFieldValue.{UnknownFieldValue}
use Rattle.reflect_wire.specs.declared.unknown.UnknownFieldValue.TheFolds.{fold-UnknownFieldValue, fold-UnknownFieldSet}
use Rattle.reflect_wire.specs.declared.unknown.UnknownFieldValue.TheViews.{out-UnknownFieldSet}
use Rattle.reflect_wire.specs.declared.unknown.UnknownFieldValue.TheOpen.{UnknownFieldValue-F, UnknownField-F, UnknownFieldSet-F}
use Rattle.reflect_wire.specs.Records.{Payload, varint, fixed64, delimited, group, fixed32, Records, no_records, more_records}

abbrev pub records_of : List (ℕ × Payload) → Records
records_of [] = no_records
records_of (r ∷ rs) = more_records r.0 r.1 (records_of rs)

abbrev pub payload_step : UnknownFieldValue-F Payload (ℕ × Payload) Records → Payload
payload_step (UnknownFieldValue-F.Varint n) = varint n
payload_step (UnknownFieldValue-F.SixtyFourBit n) = fixed64 n
payload_step (UnknownFieldValue-F.LengthDelimited v) = delimited v.items
payload_step (UnknownFieldValue-F.Group rs) = group rs
payload_step (UnknownFieldValue-F.ThirtyTwoBit n) = fixed32 n

abbrev pub field_step : UnknownField-F Payload (ℕ × Payload) Records → ℕ × Payload
field_step f = (f.number, f.value)

abbrev pub set_step : UnknownFieldSet-F Payload (ℕ × Payload) Records → Records
set_step s = records_of s.fields.items

abbrev pub payload_view : UnknownFieldValue → Payload
payload_view = fold-UnknownFieldValue Payload (ℕ × Payload) Records payload_step field_step set_step

abbrev pub field_view : UnknownField → ℕ × Payload
field_view f = (f.number, payload_view f.value)

abbrev pub records_view : List UnknownField → Records
records_view fs = records_of (map field_view fs)

abbrev pub set_view : UnknownFieldSet → Records
set_view = fold-UnknownFieldSet Payload (ℕ × Payload) Records payload_step field_step set_step

-- a set's records, as the code holds them
abbrev pub fields_of : UnknownFieldSet → List UnknownField
fields_of s = (out-UnknownFieldSet s).fields.items
