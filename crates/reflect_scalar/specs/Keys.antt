-- Keys of maps as single values.
use Rattle.std.specs.Prelude.{pos, false, [], string_bytes}
use Rattle.reflect_pool.specs.declared.kind.Kind.{Kind}
use Rattle.reflect_pool.specs.declared.kind.Kind.TheVariants as kinds
use Rattle.reflect_scalar.specs.Singles.{Single, truth, int32, int64, uint32, uint64, text}
use Rattle.reflect_scalar.specs.declared.map_key.MapKey.{MapKey}
use Rattle.reflect_scalar.specs.declared.map_key.MapKey.TheVariants as keys

abbrev pub key_view : MapKey → Single
key_view (keys.Bool b) = truth b
key_view (keys.I32 z) = int32 z
key_view (keys.I64 z) = int64 z
key_view (keys.U32 n) = uint32 n
key_view (keys.U64 n) = uint64 n
key_view (keys.String t) = text (string_bytes t)

-- zero, false or empty; of a kind that keys do not have it is the empty text
abbrev pub default_key : Kind → Single
default_key kinds.Bool = truth false
default_key kinds.Int32 = int32 (pos 0)
default_key kinds.Sint32 = int32 (pos 0)
default_key kinds.Sfixed32 = int32 (pos 0)
default_key kinds.Int64 = int64 (pos 0)
default_key kinds.Sint64 = int64 (pos 0)
default_key kinds.Sfixed64 = int64 (pos 0)
default_key kinds.Uint32 = uint32 0
default_key kinds.Fixed32 = uint32 0
default_key kinds.Uint64 = uint64 0
default_key kinds.Fixed64 = uint64 0
default_key _ = text []
