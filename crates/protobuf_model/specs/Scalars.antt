-- What single values are written as, and what payloads mean as such (protobuf.dev, "Encoding").
use Rattle.std.specs.Prelude.{ℕ, ℤ, pos, negsuc, ◌+◌, ◌*◌, ◌/◌, ◌%◌, ◌^◌, ◌<◌, ◌==◌, not, cond, Bool, true, false, List, [], ◌∷◌, if◌then◌else◌, FitsSigned, bytes_eq}
use Rattle.std.specs.Int.{w32, w64, cast_signed, cast_unsigned}
use Rattle.std.specs.Str.{IsUtf8}
use Rattle.reflect_wire.specs.Records.{Payload, varint, fixed64, delimited, fixed32}
use Rattle.reflect_wire.specs.declared.wire_key.WireType.{WireType}
use Rattle.reflect_wire.specs.declared.wire_key.WireType.TheVariants.{Varint, SixtyFourBit, LengthDelimited, ThirtyTwoBit}
use Rattle.protobuf_model.specs.Values.{Single, truth, int32, int64, uint32, uint64, text, blob, enumerated}
use Rattle.protobuf_model.specs.Types.{Scalar}
use Rattle.protobuf_model.specs.Types as kinds

-- a number z from 0 on is written as 2z, one below 0 as -2z - 1; `negsuc n` is -(n + 1)
abbrev pub zigzag : ℤ → ℕ
zigzag (pos n) = 2 * n
zigzag (negsuc n) = 2 * n + 1

abbrev pub unzigzag : ℕ → ℤ
unzigzag n = cond (n % 2 == 0) (pos (n / 2)) (negsuc (n / 2))

-- the low 32 bits
abbrev pub low : ℕ → ℕ
low n = n % 2 ^ 32

abbrev pub wire_type : Scalar → WireType
wire_type kinds.fixed32 = ThirtyTwoBit
wire_type kinds.sfixed32 = ThirtyTwoBit
wire_type kinds.fixed64 = SixtyFourBit
wire_type kinds.sfixed64 = SixtyFourBit
wire_type kinds.string = LengthDelimited
wire_type kinds.bytes = LengthDelimited
wire_type _ = Varint

-- values of the kind may stand one after another in one record
abbrev pub packs : Scalar → Bool
packs kinds.string = false
packs kinds.bytes = false
packs _ = true

-- what a payload means as a value of the kind, none where it has another form
abbrev pub meant : Scalar → Payload → List Single
meant kinds.int32 (varint n) = int32 (cast_signed w32 (low n)) ∷ []
meant kinds.int64 (varint n) = int64 (cast_signed w64 n) ∷ []
meant kinds.uint32 (varint n) = uint32 (low n) ∷ []
meant kinds.uint64 (varint n) = uint64 n ∷ []
meant kinds.sint32 (varint n) = int32 (unzigzag (low n)) ∷ []
meant kinds.sint64 (varint n) = int64 (unzigzag n) ∷ []
meant kinds.bool (varint n) = truth (not (n == 0)) ∷ []
meant kinds.enumeration (varint n) = enumerated (cast_signed w32 (low n)) ∷ []
meant kinds.fixed32 (fixed32 n) = uint32 n ∷ []
meant kinds.sfixed32 (fixed32 n) = int32 (cast_signed w32 n) ∷ []
meant kinds.fixed64 (fixed64 n) = uint64 n ∷ []
meant kinds.sfixed64 (fixed64 n) = int64 (cast_signed w64 n) ∷ []
meant kinds.string (delimited p) = text p ∷ []
meant kinds.bytes (delimited p) = blob p ∷ []
meant _ _ = []

-- the payload that a value is written as, none where it does not suit the kind; a negative int32 or
-- enum takes the ten bytes of 64 bits
abbrev pub written_as : Scalar → Single → List Payload
written_as kinds.int32 (int32 z) = varint (cast_unsigned w64 z) ∷ []
written_as kinds.int64 (int64 z) = varint (cast_unsigned w64 z) ∷ []
written_as kinds.uint32 (uint32 n) = varint n ∷ []
written_as kinds.uint64 (uint64 n) = varint n ∷ []
written_as kinds.sint32 (int32 z) = varint (zigzag z) ∷ []
written_as kinds.sint64 (int64 z) = varint (zigzag z) ∷ []
written_as kinds.bool (truth b) = varint (if b then 1 else 0) ∷ []
written_as kinds.enumeration (enumerated z) = varint (cast_unsigned w64 z) ∷ []
written_as kinds.fixed32 (uint32 n) = fixed32 n ∷ []
written_as kinds.sfixed32 (int32 z) = fixed32 (cast_unsigned w32 z) ∷ []
written_as kinds.fixed64 (uint64 n) = fixed64 n ∷ []
written_as kinds.sfixed64 (int64 z) = fixed64 (cast_unsigned w64 z) ∷ []
written_as kinds.string (text t) = delimited t ∷ []
written_as kinds.bytes (blob b) = delimited b ∷ []
written_as _ _ = []

-- the value is one of the kind: a number of its bits, a text of UTF-8
abbrev pub Suits : Scalar → Single → Type 0
Suits kinds.int32 (int32 z) = FitsSigned w32 z
Suits kinds.int64 (int64 z) = FitsSigned w64 z
Suits kinds.uint32 (uint32 n) = n < 2 ^ 32
Suits kinds.uint64 (uint64 n) = n < 2 ^ 64
Suits kinds.sint32 (int32 z) = FitsSigned w32 z
Suits kinds.sint64 (int64 z) = FitsSigned w64 z
Suits kinds.bool (truth b) = Unit {0}
Suits kinds.enumeration (enumerated z) = FitsSigned w32 z
Suits kinds.fixed32 (uint32 n) = n < 2 ^ 32
Suits kinds.sfixed32 (int32 z) = FitsSigned w32 z
Suits kinds.fixed64 (uint64 n) = n < 2 ^ 64
Suits kinds.sfixed64 (int64 z) = FitsSigned w64 z
Suits kinds.string (text t) = IsUtf8 t
Suits kinds.bytes (blob b) = Unit {0}
Suits _ _ = ⊥

abbrev pub same_bool : Bool → Bool → Bool
same_bool true b = b
same_bool false b = not b

abbrev pub same_int : ℤ → ℤ → Bool
same_int (pos m) (pos n) = m == n
same_int (negsuc m) (negsuc n) = m == n
same_int _ _ = false

-- the values are equal
abbrev pub same : Single → Single → Bool
same (truth a) (truth b) = same_bool a b
same (int32 y) (int32 z) = same_int y z
same (int64 y) (int64 z) = same_int y z
same (uint32 m) (uint32 n) = m == n
same (uint64 m) (uint64 n) = m == n
same (text s) (text t) = bytes_eq s t
same (blob s) (blob t) = bytes_eq s t
same (enumerated y) (enumerated z) = same_int y z
same _ _ = false
