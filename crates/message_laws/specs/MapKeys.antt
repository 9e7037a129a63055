-- Keys of maps (protobuf.dev, "Language Guide", Maps).
use Rattle.std.specs.Prelude.{◌≡◌, true, Some}
use Rattle.reflect_tables.specs.Types.{PoolType, FieldType, KindType}
use Rattle.reflect_pool.specs.Shapes.{is_entry}
use Rattle.reflect_message.specs.Known.{entry_field}
use Rattle.reflect_decode.specs.Refused.{HoldsKeys}

-- the entries of each map have a key of a kind that keys have
abbrev pub HaveMapKeys : PoolType → Type 0
HaveMapKeys pool =
    (t : KindType) (keys : FieldType) → is_entry pool t ≡ true → entry_field pool t 1 ≡ Some keys
    → HoldsKeys pool keys
