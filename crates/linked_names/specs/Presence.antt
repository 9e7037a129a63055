-- Pools in which a field of one message has presence.
use Rattle.std.specs.Prelude.{◌≡◌, ◌<◌, ℕ, length, true, false}
use Rattle.reflect_message.specs.KindTypes.{IsMessageType}
use Rattle.reflect_pool.specs.Shapes.{is_repeated}
use Rattle.reflect_tables.specs.Types.{PoolType, FieldType, type_at, type_of_field}

-- the field has presence if it holds one message
abbrev pub HasMessagePresence : FieldType → Type 0
HasMessagePresence f =
    IsMessageType f.kind → is_repeated f.cardinality ≡ false → f.presence ≡ true

-- so has each field of the pool's types
abbrev pub HasPresentMessages : PoolType → Type 0
HasPresentMessages pool =
    (i j : ℕ) → j < length (type_at pool i).fields → HasMessagePresence (type_of_field pool i j)
