-- What a message holds suits its type, as deep as records may reach.
use Rattle.std.specs.Prelude.{◌≡◌, ℕ, zero, suc, Bool, true, false, Option, None, Some}
use Rattle.std.specs.Option.{IsSome}
use Rattle.reflect_entries.specs.Entries.{value_at}
use Rattle.reflect_tables.specs.Types.{PoolType, FieldType, KindType}
use Rattle.reflect_pool.specs.FieldsLeft.{field_type}
use Rattle.reflect_pool.specs.Kinds.{IsKind}
use Rattle.reflect_pool.specs.Shapes.{holds_list, holds_map}
use Rattle.reflect_pool.specs.declared.kind.Kind.TheVariants as kinds
use Rattle.reflect_pool.specs.declared.message.MessageDescriptor.{MessageDescriptor}
use Rattle.reflect_pool.specs.declared.field.FieldDescriptor.{FieldDescriptor}
use Rattle.reflect_pool.specs.declared.extension.ExtensionDescriptor.{ExtensionDescriptor}
use Rattle.reflect_scalar.specs.FieldTypes.{field_pool, extension_pool, extension_type}
use Rattle.reflect_message.specs.Contents.{Content, content_of}
use Rattle.reflect_message.specs.Declares.{Owns, OwnsExtension, NoField}
use Rattle.reflect_message.specs.KindTypes.{IsMessageType}
use Rattle.reflect_message.specs.Lists.{list_items}
use Rattle.reflect_message.specs.Maps.{map_entries}
use Rattle.reflect_message.specs.Messages.{message_in}
use Rattle.reflect_message.specs.Oneofs.{AreChosen}
use Rattle.reflect_message.specs.Names.{DynamicMessage, Value}

-- what messages of a type may hold
abbrev pub Suiting : Type 1
Suiting = MessageDescriptor → Content → Type 0

-- a message of the kind's type that holds what suits it
abbrev pub IsSuiting : Suiting → PoolType → KindType → Value → Type 0
IsSuiting inner pool t v =
    (m : DynamicMessage) × (message_in v ≡ Some m) × IsKind pool (kinds.Message m.descriptor) t
    × inner m.descriptor (content_of m)

-- by whether the field is a map, and whether it is a list: into these records put values, into a
-- message they go themselves
abbrev pub SuitsAs : Suiting → PoolType → KindType → Bool → Bool → Value → Type 0
SuitsAs inner pool t true list v = IsSome (map_entries v)
SuitsAs inner pool t false true v = IsSome (list_items v)
SuitsAs inner pool t false false v = IsMessageType t → IsSuiting inner pool t v

abbrev pub HeldSuits : Suiting → PoolType → FieldType → Option Value → Type 0
HeldSuits inner pool f None = Unit {0}
HeldSuits inner pool f (Some v) = SuitsAs inner pool f.kind (holds_map pool f) (holds_list pool f) v

-- each field and each extension holds what suits it, and of each oneof one member at most holds
-- anything
pub record SuitsBy (inner : Suiting) (m : MessageDescriptor) (c : Content) : Type 0 where
  pub chosen : AreChosen m c.choices c.fields
  pub fields : (f : FieldDescriptor) → Owns m f
      → HeldSuits inner (field_pool f) (field_type f) (value_at c.fields (field_type f).number)
  pub extensions : (x : ExtensionDescriptor) → OwnsExtension m x
      → NoField m (extension_type x).number
      → HeldSuits inner (extension_pool x) (extension_type x)
      (value_at c.extensions (extension_type x).number)

-- messages that stand below so many levels: of those below the last one nothing is asked, as no
-- record reaches them
abbrev pub SuitsBelow : ℕ → Suiting
SuitsBelow zero m c = Unit {0}
SuitsBelow (suc levels) m c = SuitsBy (SuitsBelow levels) m c

-- a message below which so many levels may lie
abbrev pub Suits : ℕ → Suiting
Suits levels m c = SuitsBy (SuitsBelow levels) m c

-- the value that stands for the key or the value of an entry
abbrev pub PartSuits : ℕ → PoolType → FieldType → Value → Type 0
PartSuits levels pool f v = IsMessageType f.kind → IsSuiting (SuitsBelow levels) pool f.kind v
