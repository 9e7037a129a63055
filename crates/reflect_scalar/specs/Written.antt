-- The one form in which a value of a kind is written.
use Rattle.std.specs.Prelude.{◌≡◌, ℕ, ◌<◌, ◌^◌, List, length, Option, Some, None, option_map, if◌then◌else◌, FitsSigned}
use Rattle.std.specs.Int.{w32, w64, cast_unsigned}
use Rattle.std.specs.Str.{IsUtf8}
use Rattle.reflect_wire.specs.Records.{Payload, varint, fixed64, delimited, fixed32}
use Rattle.reflect_wire.specs.Encoding.{payload_bytes}
use Rattle.reflect_pool.specs.declared.kind.Kind.{Kind}
use Rattle.reflect_pool.specs.declared.kind.Kind.TheVariants as kinds
use Rattle.reflect_scalar.specs.declared.scalar.WireScalar.{WireScalar}
use Rattle.reflect_scalar.specs.Kinds.{wire_type}
use Rattle.reflect_scalar.specs.Meaning.{zigzag, IsScalar}
use Rattle.reflect_scalar.specs.Singles.{Single, truth, int32, int64, uint32, uint64, text, blob, enumerated, wire_view}

-- a negative number of an int32 or an enum is written in the ten bytes of its 64 bits
abbrev pub written : Kind → Single → Option Payload
written kinds.Int32 (int32 z) = Some (varint (cast_unsigned w64 z))
written kinds.Int64 (int64 z) = Some (varint (cast_unsigned w64 z))
written kinds.Uint32 (uint32 n) = Some (varint n)
written kinds.Uint64 (uint64 n) = Some (varint n)
written kinds.Sint32 (int32 z) = Some (varint (zigzag z))
written kinds.Sint64 (int64 z) = Some (varint (zigzag z))
written kinds.Fixed32 (uint32 n) = Some (fixed32 n)
written kinds.Fixed64 (uint64 n) = Some (fixed64 n)
written kinds.Sfixed32 (int32 z) = Some (fixed32 (cast_unsigned w32 z))
written kinds.Sfixed64 (int64 z) = Some (fixed64 (cast_unsigned w64 z))
written kinds.Bool (truth b) = Some (varint (if b then 1 else 0))
written (kinds.Enum e) (enumerated z) = Some (varint (cast_unsigned w64 z))
written kinds.String (text t) = Some (delimited t)
written kinds.Bytes (blob b) = Some (delimited b)
written _ _ = None

-- the bytes of a payload that is no group, for which the number of its key does not count
abbrev pub plain_bytes : Payload → List ℕ
plain_bytes = payload_bytes 0

-- a value that the types of the code hold: numbers of 32 or 64 bits, a text of UTF-8, and no more
-- bytes than a length can say
abbrev pub Fits : Single → Type 0
Fits (truth b) = Unit {0}
Fits (int32 z) = FitsSigned w32 z
Fits (int64 z) = FitsSigned w64 z
Fits (uint32 n) = n < 2 ^ 32
Fits (uint64 n) = n < 2 ^ 64
Fits (text t) = IsUtf8 t × (length t < 2 ^ 64)
Fits (blob b) = length b < 2 ^ 64
Fits (enumerated z) = FitsSigned w32 z

-- the value is one that the code holds, and this is what it is written as
abbrev pub IsFormOf : Kind → Single → Option WireScalar → Type 0
IsFormOf kind v o = Fits v × (option_map wire_view o ≡ written kind v)

-- what is written of a value of the kind is read as that value
abbrev pub IsReadAs : Kind → Single → WireScalar → Type 0
IsReadAs kind v w = IsScalar kind (wire_type kind) (plain_bytes (wire_view w)) v
