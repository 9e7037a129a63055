-- Messages that are values, and what stands for them where there are none.
use Rattle.std.specs.Prelude.{◌≡◌, Option, None, Some}
use Rattle.reflect_tables.specs.Types.{PoolType, KindType}
use Rattle.reflect_pool.specs.Kinds.{IsKind}
use Rattle.reflect_pool.specs.declared.kind.Kind.TheVariants as kinds
use Rattle.reflect_message.specs.Contents.{content_of, nothing}
use Rattle.reflect_message.specs.Names.{DynamicMessage, Value}
use Rattle.reflect_message.specs.declared.message.MessageOf.{MessageOf}
use Rattle.reflect_message.specs.declared.parts.HeldOf.TheOpen.{ValueOf-F}
use Rattle.reflect_message.specs.declared.parts.HeldOf.TheViews.{out-ValueOf}
use Rattle.reflect_message.specs.declared.value.ValueOf.{ValueOf}

-- the message that a value is
abbrev pub message_in : {D : Type 0} → ValueOf D → Option (MessageOf D)
message_in {D} v = elim (out-ValueOf D v) [
  | ValueOf-F.Bool b ↦ None
  | ValueOf-F.I32 z ↦ None
  | ValueOf-F.I64 z ↦ None
  | ValueOf-F.U32 n ↦ None
  | ValueOf-F.U64 n ↦ None
  | ValueOf-F.String t ↦ None
  | ValueOf-F.Bytes b ↦ None
  | ValueOf-F.EnumNumber z ↦ None
  | ValueOf-F.Message m ↦ Some m
  | ValueOf-F.List vs ↦ None
  | ValueOf-F.Map es ↦ None
]

-- the message that is held
abbrev pub message_held : Option Value → Option DynamicMessage
message_held None = None
message_held (Some v) = message_in v

-- the message that is held, or where nothing is, one of the type in which nothing is set
abbrev pub IsStart : PoolType → KindType → Option Value → DynamicMessage → Type 0
IsStart pool t None m = IsKind pool (kinds.Message m.descriptor) t × (content_of m ≡ nothing)
IsStart pool t (Some v) m = message_in v ≡ Some m
