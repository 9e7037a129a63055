-- Values that are lent of fields: what is held, or the default.
use Rattle.std.proofs.Common.{Option, None, Some, refl, unwrap_or}
use Rattle.reflect_tables.specs.Types.{PoolType, FieldType}
use Rattle.reflect_message.specs.Defaults.{IsDefault}
use Rattle.reflect_message.specs.Shown.{IsHeldOrDefault}
use Rattle.reflect_message.specs.Names.{Value}

module _ (pool : PoolType) (f : FieldType) where
  -- where nothing is held the default is, and else what is held
  pub held_or_default : (held : Option Value) (default : Value) → IsDefault pool f default → IsHeldOrDefault pool f held (unwrap_or held default)
  held_or_default None default is = is
  held_or_default (Some v) default is = refl
