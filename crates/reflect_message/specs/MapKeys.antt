-- Keys of maps as values, and values as keys.
use Rattle.std.specs.Prelude.{Option, Some, None}
use Rattle.reflect_scalar.specs.declared.map_key.MapKey.{MapKey}
use Rattle.reflect_scalar.specs.declared.map_key.MapKey.TheVariants as keys
use Rattle.reflect_message.specs.Names.{Value}
use Rattle.reflect_message.specs.declared.value.ValueOf as values
use Rattle.reflect_message.specs.declared.parts.HeldOf.TheOpen.{ValueOf-F}
use Rattle.reflect_message.specs.declared.parts.HeldOf.TheViews.{out-ValueOf}
use Rattle.reflect_pool.specs.declared.message.MessageDescriptor.{MessageDescriptor}

-- the value that a key is
abbrev pub value_of_key : MapKey → Value
value_of_key (keys.Bool b) = values.Bool b
value_of_key (keys.I32 z) = values.I32 z
value_of_key (keys.I64 z) = values.I64 z
value_of_key (keys.U32 n) = values.U32 n
value_of_key (keys.U64 n) = values.U64 n
value_of_key (keys.String t) = values.String t

-- the key that a value is, if it can be one
abbrev pub key_of_value : Value → Option MapKey
key_of_value v = elim (out-ValueOf MessageDescriptor v) [
  | ValueOf-F.Bool b ↦ Some (keys.Bool b)
  | ValueOf-F.I32 z ↦ Some (keys.I32 z)
  | ValueOf-F.I64 z ↦ Some (keys.I64 z)
  | ValueOf-F.U32 n ↦ Some (keys.U32 n)
  | ValueOf-F.U64 n ↦ Some (keys.U64 n)
  | ValueOf-F.String t ↦ Some (keys.String t)
  | ValueOf-F.Bytes b ↦ None
  | ValueOf-F.EnumNumber z ↦ None
  | ValueOf-F.Message m ↦ None
  | ValueOf-F.List vs ↦ None
  | ValueOf-F.Map es ↦ None
]
