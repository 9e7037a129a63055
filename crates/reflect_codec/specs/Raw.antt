-- Fields that are being read, without where they lie in memory.
use Rattle.std.specs.Prelude.{◌≡◌, ℕ, ℤ, List, ◌++◌, map, Result, Ok, Err}
use Rattle.std.specs.declared.alloc.Global.{Global}
use Rattle.std.specs.declared.vec.Vec.{Vec}
use Rattle.reflect_wire.specs.Records.{Payload, IsValue}
use Rattle.reflect_wire.specs.declared.wire_error.WireError.{WireError}
use Rattle.reflect_wire.specs.declared.wire_key.WireKey.{WireKey}
use Rattle.reflect_codec.specs.declared.fields.RawField.{RawField}
use Rattle.reflect_codec.specs.declared.fields.RawValue.{RawValue}
use Rattle.reflect_codec.specs.declared.fields.RawValue.TheVariants as raw
use Rattle.reflect_codec.specs.Reading.{Value, number, eight_bytes, payload, other, Field, value_of, Rejects}

abbrev pub value_view : RawValue → Value
value_view (raw.Varint n) = number n
value_view (raw.SixtyFourBit n) = eight_bytes n
value_view (raw.Payload p) = payload p.now
value_view raw.Other = other

abbrev pub field_view : RawField → Field
field_view f = (f.number, value_view f.value)

abbrev pub fields_view : List RawField → List Field
fields_view = map field_view

-- the bytes behind the key spell the value
abbrev pub IsRawValue : ℕ → WireKey → List ℕ → Value → Type 0
IsRawValue levels key bytes v = (p : Payload) × IsValue levels key bytes p × (v ≡ value_of p)

-- the fields that something means stand behind those that were there
abbrev pub MoreFields : {A : Type 0} → (A → List Field → Type 0) → (A → WireError → Type 0)
    → List Field → A → Result (Vec RawField Global) WireError → Type 0
MoreFields R Fault old a (Ok v) = (fs : List Field) × R a fs × (fields_view v.items ≡ old ++ fs)
MoreFields R Fault old a (Err e) = Rejects R Fault a e

-- the numbers that something means stand behind those that were there
abbrev pub MoreNumbers : {A : Type 0} → (A → List ℤ → Type 0) → (A → WireError → Type 0) → List ℤ
    → A → Result (Vec ℤ Global) WireError → Type 0
MoreNumbers R Fault old a (Ok v) = (zs : List ℤ) × R a zs × (v.items ≡ old ++ zs)
MoreNumbers R Fault old a (Err e) = Rejects R Fault a e
