-- What the bytes of a record mean as one value of a kind.
--
-- Source: "Encoding" at protobuf.dev: Base 128 Varints, More Integer Types, Non-varint Numbers,
-- Length-Delimited Records.
use Rattle.std.specs.Prelude.{◌≡◌, ◌≢◌, ◌⊎◌, ℕ, ℤ, pos, negsuc, ◌+◌, ◌-◌, ◌*◌, ◌%◌, ◌^◌, ◌==◌, not, List}
use Rattle.std.specs.Int.{w32, w64, cast_signed}
use Rattle.std.specs.Str.{IsUtf8}
use Rattle.reflect_wire.specs.Faults.{VarintFault, DelimitedFault, FixedFault}
use Rattle.reflect_wire.specs.Reads.{Fronts}
use Rattle.reflect_wire.specs.Records.{Payload, varint, fixed64, delimited, fixed32, wire_of, SpellsPayload}
use Rattle.reflect_wire.specs.declared.wire_error.WireError.{WireError}
use Rattle.reflect_wire.specs.declared.wire_error.WireError.TheVariants.{BadWireType, BadUtf8}
use Rattle.reflect_wire.specs.declared.wire_key.WireType.{WireType}
use Rattle.reflect_wire.specs.declared.wire_key.WireType.TheVariants as wires
use Rattle.reflect_pool.specs.declared.kind.Kind.{Kind}
use Rattle.reflect_pool.specs.declared.kind.Kind.TheVariants as kinds
use Rattle.reflect_scalar.specs.Kinds.{wire_type}
use Rattle.reflect_scalar.specs.Singles.{Single, truth, int32, int64, uint32, uint64, text, blob, enumerated}

-- a number z from 0 on is written as 2z, one below 0 as -2z - 1; `negsuc n` is -(n + 1)
abbrev pub zigzag : ℤ → ℕ
zigzag (pos n) = 2 * n
zigzag (negsuc n) = 2 * (n + 1) - 1

-- the low 32 bits
abbrev pub low : ℕ → ℕ
low n = n % 2 ^ 32

-- the value of a kind that a payload stands for; floating-point numbers and messages are not read
-- as single values
abbrev pub StandsFor : Kind → Payload → Single → Type 0
StandsFor kinds.Int32 (varint n) v = v ≡ int32 (cast_signed w32 (low n))
StandsFor kinds.Int64 (varint n) v = v ≡ int64 (cast_signed w64 n)
StandsFor kinds.Uint32 (varint n) v = v ≡ uint32 (low n)
StandsFor kinds.Uint64 (varint n) v = v ≡ uint64 n
StandsFor kinds.Sint32 (varint n) v = (z : ℤ) × (low n ≡ zigzag z) × (v ≡ int32 z)
StandsFor kinds.Sint64 (varint n) v = (z : ℤ) × (n ≡ zigzag z) × (v ≡ int64 z)
StandsFor kinds.Bool (varint n) v = v ≡ truth (not (n == 0))
StandsFor (kinds.Enum e) (varint n) v = v ≡ enumerated (cast_signed w32 (low n))
StandsFor kinds.Fixed32 (fixed32 n) v = v ≡ uint32 n
StandsFor kinds.Sfixed32 (fixed32 n) v = v ≡ int32 (cast_signed w32 n)
StandsFor kinds.Fixed64 (fixed64 n) v = v ≡ uint64 n
StandsFor kinds.Sfixed64 (fixed64 n) v = v ≡ int64 (cast_signed w64 n)
StandsFor kinds.String (delimited p) v = IsUtf8 p × (v ≡ text p)
StandsFor kinds.Bytes (delimited p) v = v ≡ blob p
StandsFor _ _ v = ⊥

-- the bytes behind a key of the wire type spell a payload that is no group, so that the key's
-- number does not count
abbrev pub IsPlainPayload : WireType → List ℕ → Payload → Type 0
IsPlainPayload wire bytes p = (wire ≡ wire_of p) × SpellsPayload 0 0 bytes p

-- the bytes behind a key of the wire type spell a value of the kind
abbrev pub IsScalar : Kind → WireType → List ℕ → Single → Type 0
IsScalar kind wire bytes v = (p : Payload) × IsPlainPayload wire bytes p × StandsFor kind p v

-- no value of the kind is read
abbrev pub IsUnread : Kind → Type 0
IsUnread kinds.Double = Unit {0}
IsUnread kinds.Float = Unit {0}
IsUnread (kinds.Message m) = Unit {0}
IsUnread _ = ⊥

abbrev pub IsNoText : Kind → Payload → Type 0
IsNoText kinds.String (delimited p) = IsUtf8 p → ⊥
IsNoText _ _ = ⊥

-- why a payload means no value of the kind
abbrev pub MeaningFault : Kind → Payload → WireError → Type 0
MeaningFault kind p BadWireType = (wire_of p ≢ wire_type kind) ⊎ IsUnread kind
MeaningFault kind p BadUtf8 = IsNoText kind p
MeaningFault kind p _ = ⊥

abbrev pub IsBadWireType : WireError → Type 0
IsBadWireType BadWireType = Unit {0}
IsBadWireType _ = ⊥

-- why no payload of the wire type stands at the front
abbrev pub PlainFault : WireType → List ℕ → WireError → Type 0
PlainFault wires.Varint bytes e = VarintFault 10 bytes e
PlainFault wires.SixtyFourBit bytes e = FixedFault 8 bytes e
PlainFault wires.LengthDelimited bytes e = DelimitedFault bytes e
PlainFault wires.StartGroup bytes e = IsBadWireType e
PlainFault wires.EndGroup bytes e = IsBadWireType e
PlainFault wires.ThirtyTwoBit bytes e = FixedFault 4 bytes e

-- why no value of the kind stands at the front, behind a key of the wire type
abbrev pub ScalarFault : Kind → WireType → List ℕ → WireError → Type 0
ScalarFault kind wire bytes BadWireType = (wire ≢ wire_type kind) ⊎ IsUnread kind
ScalarFault kind wire bytes BadUtf8 = (wire ≡ wire_type kind)
    × ((p : Payload)
    × ((rest : List ℕ) × Fronts (IsPlainPayload wire) bytes p rest × IsNoText kind p))
ScalarFault kind wire bytes e = (wire ≡ wire_type kind) × PlainFault wire bytes e
