-- What a public kind says.
use Rattle.std.specs.Prelude.{◌≡◌, Option, Some, None}
use Rattle.reflect_tables.specs.Types.{KindType, PoolType, double, float, int32, int64, uint32, uint64, sint32, sint64, fixed32, fixed64, sfixed32, sfixed64, bool, string, bytes, message, enumeration}
use Rattle.reflect_pool.specs.declared.enums.EnumDescriptor.{EnumDescriptor}
use Rattle.reflect_pool.specs.declared.kind.Kind.{Kind}
use Rattle.reflect_pool.specs.declared.kind.Kind.TheVariants as kinds
use Rattle.reflect_pool.specs.declared.message.MessageDescriptor.{MessageDescriptor}

-- the kind is the one of the type, with a descriptor into the same pool
abbrev pub IsKind : PoolType → Kind → KindType → Type 0
IsKind pool kinds.Double k = k ≡ double
IsKind pool kinds.Float k = k ≡ float
IsKind pool kinds.Int32 k = k ≡ int32
IsKind pool kinds.Int64 k = k ≡ int64
IsKind pool kinds.Uint32 k = k ≡ uint32
IsKind pool kinds.Uint64 k = k ≡ uint64
IsKind pool kinds.Sint32 k = k ≡ sint32
IsKind pool kinds.Sint64 k = k ≡ sint64
IsKind pool kinds.Fixed32 k = k ≡ fixed32
IsKind pool kinds.Fixed64 k = k ≡ fixed64
IsKind pool kinds.Sfixed32 k = k ≡ sfixed32
IsKind pool kinds.Sfixed64 k = k ≡ sfixed64
IsKind pool kinds.Bool k = k ≡ bool
IsKind pool kinds.String k = k ≡ string
IsKind pool kinds.Bytes k = k ≡ bytes
IsKind pool (kinds.Message d) k = (d.pool.now ≡ pool) × (k ≡ message d.index)
IsKind pool (kinds.Enum d) k = (d.pool.now ≡ pool) × (k ≡ enumeration d.index)

-- the message type, of a kind that is one
abbrev pub message_of_kind : Kind → Option MessageDescriptor
message_of_kind (kinds.Message d) = Some d
message_of_kind _ = None

-- the enum type, of a kind that is one
abbrev pub enum_of_kind : Kind → Option EnumDescriptor
enum_of_kind (kinds.Enum d) = Some d
enum_of_kind _ = None
