-- Which fields are set (protobuf.dev, "Application Note: Field Presence").
use Rattle.std.specs.Prelude.{Bool, false, cond, Option, None, Some}
use Rattle.reflect_tables.specs.Types.{PoolType, FieldType}
use Rattle.reflect_message.specs.Bytes.{form_of, is_set}
use Rattle.reflect_message.specs.Names.{Value}

-- a field that holds something is set: one with presence always, another where it holds no default
abbrev pub is_held : PoolType → FieldType → Option Value → Bool
is_held pool f None = false
is_held pool f (Some v) = is_set pool f (form_of v)

-- what a field holds, if it is set
abbrev pub held_if_set : PoolType → FieldType → Option Value → Option Value
held_if_set pool f None = None
held_if_set pool f (Some v) = cond (is_set pool f (form_of v)) (Some v) None
