-- What the kinds of single values are written in, and which values they have.
use Rattle.std.specs.Prelude.{◌≡◌, pos, Bool, true, false, [], Option, Some, None}
use Rattle.reflect_tables.specs.Types.{KindType}
use Rattle.reflect_tables.specs.Types as types
use Rattle.reflect_pool.specs.Parts.{type_of_value}
use Rattle.reflect_wire.specs.declared.wire_key.WireType.{WireType}
use Rattle.reflect_wire.specs.declared.wire_key.WireType.TheVariants.{Varint, SixtyFourBit, LengthDelimited, StartGroup, EndGroup, ThirtyTwoBit}
use Rattle.reflect_pool.specs.declared.kind.Kind.{Kind}
use Rattle.reflect_pool.specs.declared.kind.Kind.TheVariants as kinds
use Rattle.reflect_scalar.specs.Singles.{Single, truth, int32, int64, uint32, uint64, text, blob, enumerated}

abbrev pub wire_type : Kind → WireType
wire_type kinds.Double = SixtyFourBit
wire_type kinds.Float = ThirtyTwoBit
wire_type kinds.Int32 = Varint
wire_type kinds.Int64 = Varint
wire_type kinds.Uint32 = Varint
wire_type kinds.Uint64 = Varint
wire_type kinds.Sint32 = Varint
wire_type kinds.Sint64 = Varint
wire_type kinds.Fixed32 = ThirtyTwoBit
wire_type kinds.Fixed64 = SixtyFourBit
wire_type kinds.Sfixed32 = ThirtyTwoBit
wire_type kinds.Sfixed64 = SixtyFourBit
wire_type kinds.Bool = Varint
wire_type kinds.String = LengthDelimited
wire_type kinds.Bytes = LengthDelimited
wire_type (kinds.Message m) = LengthDelimited
wire_type (kinds.Enum e) = Varint

-- what the pool says of the kind
abbrev pub kind_type : Kind → KindType
kind_type kinds.Double = types.double
kind_type kinds.Float = types.float
kind_type kinds.Int32 = types.int32
kind_type kinds.Int64 = types.int64
kind_type kinds.Uint32 = types.uint32
kind_type kinds.Uint64 = types.uint64
kind_type kinds.Sint32 = types.sint32
kind_type kinds.Sint64 = types.sint64
kind_type kinds.Fixed32 = types.fixed32
kind_type kinds.Fixed64 = types.fixed64
kind_type kinds.Sfixed32 = types.sfixed32
kind_type kinds.Sfixed64 = types.sfixed64
kind_type kinds.Bool = types.bool
kind_type kinds.String = types.string
kind_type kinds.Bytes = types.bytes
kind_type (kinds.Message m) = types.message m.index
kind_type (kinds.Enum e) = types.enumeration e.index

-- values of the form may stand one after another in one record
abbrev pub packs : WireType → Bool
packs Varint = true
packs SixtyFourBit = true
packs LengthDelimited = false
packs StartGroup = false
packs EndGroup = false
packs ThirtyTwoBit = true

-- the value is one of the kind
abbrev pub suits : Kind → Single → Bool
suits kinds.Int32 (int32 z) = true
suits kinds.Int64 (int64 z) = true
suits kinds.Uint32 (uint32 n) = true
suits kinds.Uint64 (uint64 n) = true
suits kinds.Sint32 (int32 z) = true
suits kinds.Sint64 (int64 z) = true
suits kinds.Fixed32 (uint32 n) = true
suits kinds.Fixed64 (uint64 n) = true
suits kinds.Sfixed32 (int32 z) = true
suits kinds.Sfixed64 (int64 z) = true
suits kinds.Bool (truth b) = true
suits kinds.String (text t) = true
suits kinds.Bytes (blob b) = true
suits (kinds.Enum e) (enumerated z) = true
suits _ _ = false

-- zero, false or empty; of an enum its first value, of a message nothing; a fraction has the bits
-- of zero
abbrev pub IsDefault : Kind → Option Single → Type 0
IsDefault kinds.Double d = d ≡ Some (uint64 0)
IsDefault kinds.Float d = d ≡ Some (uint32 0)
IsDefault kinds.Int32 d = d ≡ Some (int32 (pos 0))
IsDefault kinds.Int64 d = d ≡ Some (int64 (pos 0))
IsDefault kinds.Uint32 d = d ≡ Some (uint32 0)
IsDefault kinds.Uint64 d = d ≡ Some (uint64 0)
IsDefault kinds.Sint32 d = d ≡ Some (int32 (pos 0))
IsDefault kinds.Sint64 d = d ≡ Some (int64 (pos 0))
IsDefault kinds.Fixed32 d = d ≡ Some (uint32 0)
IsDefault kinds.Fixed64 d = d ≡ Some (uint64 0)
IsDefault kinds.Sfixed32 d = d ≡ Some (int32 (pos 0))
IsDefault kinds.Sfixed64 d = d ≡ Some (int64 (pos 0))
IsDefault kinds.Bool d = d ≡ Some (truth false)
IsDefault kinds.String d = d ≡ Some (text [])
IsDefault kinds.Bytes d = d ≡ Some (blob [])
IsDefault (kinds.Message m) d = d ≡ None
IsDefault (kinds.Enum e) d = d ≡ Some (enumerated (type_of_value e.pool.now e.index 0).number)
