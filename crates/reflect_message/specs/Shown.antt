-- What is lent of fields.
use Rattle.std.specs.Prelude.{◌≡◌, Option, None, Some}
use Rattle.reflect_tables.specs.Types.{PoolType, FieldType}
use Rattle.reflect_message.specs.Defaults.{IsDefault}
use Rattle.reflect_message.specs.declared.field_ref.FieldRef.{FieldRef}
use Rattle.reflect_message.specs.declared.field_ref.FieldRef.TheVariants.{Borrowed, Owned}
use Rattle.reflect_message.specs.Names.{Value}

-- the value that is lent
abbrev pub shown : FieldRef → Value
shown (Borrowed v) = v.now
shown (Owned v) = v

-- the value is the one that is held, or, where none is, the field's default
abbrev pub IsHeldOrDefault : PoolType → FieldType → Option Value → Value → Type 0
IsHeldOrDefault pool f None v = IsDefault pool f v
IsHeldOrDefault pool f (Some held) v = v ≡ held

-- it is lent
abbrev pub Shows : PoolType → FieldType → Option Value → FieldRef → Type 0
Shows pool f held r = IsHeldOrDefault pool f held (shown r)
