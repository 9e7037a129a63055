-- Single values and their payloads, without where they lie in memory.
use Rattle.std.specs.Prelude.{ℕ, ℤ, Bool, List}
use Rattle.reflect_wire.specs.Records.{Payload, varint, fixed64, delimited, fixed32}
use Rattle.reflect_scalar.specs.declared.scalar.Scalar.{Scalar}
use Rattle.reflect_scalar.specs.declared.scalar.Scalar.TheVariants as scalars
use Rattle.reflect_scalar.specs.declared.scalar.WireScalar.{WireScalar}
use Rattle.reflect_scalar.specs.declared.scalar.WireScalar.TheVariants as forms

pub data Single : Type 0 where
  truth : Bool → Single
  int32 : ℤ → Single
  int64 : ℤ → Single
  uint32 : ℕ → Single
  uint64 : ℕ → Single
  text : List ℕ → Single
  blob : List ℕ → Single
  enumerated : ℤ → Single

abbrev pub scalar_view : Scalar → Single
scalar_view (scalars.Bool b) = truth b
scalar_view (scalars.I32 z) = int32 z
scalar_view (scalars.I64 z) = int64 z
scalar_view (scalars.U32 n) = uint32 n
scalar_view (scalars.U64 n) = uint64 n
scalar_view (scalars.String t) = text t.now
scalar_view (scalars.Bytes b) = blob b.now
scalar_view (scalars.EnumNumber z) = enumerated z

abbrev pub wire_view : WireScalar → Payload
wire_view (forms.Varint n) = varint n
wire_view (forms.ThirtyTwoBit n) = fixed32 n
wire_view (forms.SixtyFourBit n) = fixed64 n
wire_view (forms.LengthDelimited p) = delimited p.now
