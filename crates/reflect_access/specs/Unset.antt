-- Values that say as much as a field that is not set (protobuf.dev, "Language Guide", Default Field
-- Values).
use Rattle.std.specs.Prelude.{◌≡◌, true, [], Some}
use Rattle.reflect_tables.specs.Types.{PoolType, FieldType}
use Rattle.reflect_contents.specs.Walked.{HoldsNothing}
use Rattle.reflect_numbered.specs.Fits.{fit_of}
use Rattle.reflect_numbered.specs.declared.validity.Strictness.TheVariants.{Surface}
use Rattle.reflect_pool.specs.Same.{same_message}
use Rattle.reflect_pool.specs.declared.kind.Kind.{Kind}
use Rattle.reflect_pool.specs.declared.kind.Kind.TheVariants as kinds
use Rattle.reflect_scalar.specs.Kinds as scalars
use Rattle.reflect_message.specs.Bytes.{is_default}
use Rattle.reflect_message.specs.Messages.{message_in}
use Rattle.reflect_message.specs.Singles.{single}
use Rattle.reflect_message.specs.Names.{DynamicMessage, Value}
use Rattle.reflect_message.specs.declared.parts.HeldOf.TheOpen.{ValueOf-F}
use Rattle.reflect_message.specs.declared.parts.HeldOf.TheViews.{out-ValueOf}
use Rattle.reflect_pool.specs.declared.message.MessageDescriptor.{MessageDescriptor}

-- a message in which nothing is set, an empty list, an empty map, or the field's default
abbrev pub SaysNothing : PoolType → FieldType → Value → Type 0
SaysNothing pool f v = elim (out-ValueOf MessageDescriptor v) [
  | ValueOf-F.Bool b ↦ is_default pool f (single v) ≡ true
  | ValueOf-F.I32 z ↦ is_default pool f (single v) ≡ true
  | ValueOf-F.I64 z ↦ is_default pool f (single v) ≡ true
  | ValueOf-F.U32 n ↦ is_default pool f (single v) ≡ true
  | ValueOf-F.U64 n ↦ is_default pool f (single v) ≡ true
  | ValueOf-F.String t ↦ is_default pool f (single v) ≡ true
  | ValueOf-F.Bytes b ↦ is_default pool f (single v) ≡ true
  | ValueOf-F.EnumNumber z ↦ is_default pool f (single v) ≡ true
  | ValueOf-F.Message m ↦ HoldsNothing m
  | ValueOf-F.List vs ↦ vs.items ≡ []
  | ValueOf-F.Map es ↦ es.entries ≡ []
]

-- the value suits the field, its label and its type included, and says as much as its default
abbrev pub IsDefaultFor : PoolType → FieldType → Value → Type 0
IsDefaultFor pool f v = ((fit_of v).whole Surface pool f ≡ true) × SaysNothing pool f v

-- the default of a kind, or where this is a message, one of the type in which nothing is set
abbrev pub IsKindDefault : Kind → Value → Type 0
IsKindDefault (kinds.Message d) v = (m : DynamicMessage) × (message_in v ≡ Some m)
    × (same_message m.descriptor d ≡ true) × HoldsNothing m
IsKindDefault kind v = scalars.IsDefault kind (single v)
