-- Messages that hold what suits the fields of their types, in order, at each depth.
use Rattle.std.specs.Prelude.{◌≡◌, ℕ, zero, suc, Bool, true, false, List, [], None, Some}
use Rattle.std.specs.List.{AllByRecursion}
use Rattle.protobuf_model.specs.Meaning.{payloads}
use Rattle.reflect_decode.specs.Ordered.{IsOrdered}
use Rattle.reflect_entries.specs.Entries.{value_at}
use Rattle.reflect_message.specs.Contents.{Content, content_of}
use Rattle.reflect_message.specs.Declares.{IsDeclared, NoField, Owns, OwnsExtension}
use Rattle.reflect_message.specs.KindTypes.{IsMessageType, IsScalarType}
use Rattle.reflect_message.specs.Known.{entry_field, known_field}
use Rattle.reflect_message.specs.Lists.{list_items}
use Rattle.reflect_message.specs.Maps.{map_entries}
use Rattle.reflect_message.specs.Messages.{message_in}
use Rattle.reflect_message.specs.Singles as singles
use Rattle.reflect_message.specs.Names.{DynamicMessage, Value}
use Rattle.reflect_message.specs.Oneofs.{IsExclusive}
use Rattle.reflect_pool.specs.FieldsLeft.{field_type}
use Rattle.reflect_pool.specs.Kinds.{IsKind}
use Rattle.reflect_pool.specs.Shapes.{holds_list, holds_map}
use Rattle.reflect_pool.specs.declared.extension.ExtensionDescriptor.{ExtensionDescriptor}
use Rattle.reflect_pool.specs.declared.field.FieldDescriptor.{FieldDescriptor}
use Rattle.reflect_pool.specs.declared.kind.Kind.TheVariants as publics
use Rattle.reflect_pool.specs.declared.message.MessageDescriptor.{MessageDescriptor}
use Rattle.reflect_scalar.specs.FieldTypes.{extension_type}
use Rattle.reflect_scalar.specs.Singles as held
use Rattle.reflect_scalar.specs.declared.map_key.MapKey.{MapKey}
use Rattle.reflect_tables.specs.Types.{FieldType, PoolType}

-- a value that stands for one value of a field: of a scalar any single one, of whatever kind, or a
-- message of the field's type of which `inner` holds
pub record FitsOne (inner : DynamicMessage → Type 0) (pool : PoolType) (f : FieldType)
    (v : Value) : Type 0 where
  pub plain : IsScalarType f.kind → (w : held.Single) × (singles.single v ≡ Some w)
  pub nested : IsMessageType f.kind → (m : DynamicMessage) × (message_in v ≡ Some m)
      × IsKind pool (publics.Message m.descriptor) f.kind × inner m

-- the value of a map's entry suits the field of values that the entries' type has
abbrev pub FitsEntry : (DynamicMessage → Type 0) → PoolType → FieldType → MapKey × Value → Type 0
FitsEntry inner pool f e =
    (values : FieldType) → entry_field pool f.kind 2 ≡ Some values → FitsOne inner pool values e.1

-- by whether the field is a map, and whether it is a list
abbrev pub FitsAs : (DynamicMessage → Type 0) → PoolType → FieldType → Bool → Bool → Value → Type 0
FitsAs inner pool f true repeated v =
    (es : List (MapKey × Value)) × (map_entries v ≡ Some es)
    × AllByRecursion (FitsEntry inner pool f) es
FitsAs inner pool f false true v =
    (vs : List Value) × (list_items v ≡ Some vs) × AllByRecursion (FitsOne inner pool f) vs
FitsAs inner pool f false false v = FitsOne inner pool f v

-- all that a field holds suits it
abbrev pub FitsShaped : (DynamicMessage → Type 0) → PoolType → FieldType → Value → Type 0
FitsShaped inner pool f v = FitsAs inner pool f (holds_map pool f) (holds_list pool f) v

-- what a message holds suits the fields of its type and those that extend it, stands by ascending
-- numbers, and nothing else stands under their numbers
pub record IsShaped (inner : DynamicMessage → Type 0) (d : MessageDescriptor)
    (c : Content) : Type 0 where
  pub ordered : IsOrdered c
  pub fields : (f : FieldDescriptor) → Owns d f
      → (v : Value) → value_at c.fields (field_type f).number ≡ Some v
      → FitsShaped inner d.pool.now (field_type f) v
  pub extensions : (x : ExtensionDescriptor) → OwnsExtension d x
      → known_field d.pool.now d.index (extension_type x).number ≡ None
      → (v : Value) → value_at c.extensions (extension_type x).number ≡ Some v
      → FitsShaped inner d.pool.now (extension_type x) v
  pub apart : (f : FieldDescriptor) → Owns d f → value_at c.extensions (field_type f).number ≡ None
  pub unowned : (n : ℕ) → NoField d n → value_at c.fields n ≡ None
  pub declared : (n : ℕ) → IsDeclared d n → payloads n c.unknown ≡ []

-- a message, and those inside it, of fewer levels than this
abbrev pub Shaped : ℕ → DynamicMessage → Type 0
Shaped zero m = ⊥
Shaped (suc levels) m = IsShaped (Shaped levels) m.descriptor (content_of m)

-- so they are, and of each of their oneofs one member at most holds anything
abbrev pub Exclusive : ℕ → DynamicMessage → Type 0
Exclusive zero m = ⊥
Exclusive (suc levels) m = IsShaped (Exclusive levels) m.descriptor (content_of m) × IsExclusive m

-- the second where that is asked, else the first
abbrev pub HasShape : Bool → ℕ → DynamicMessage → Type 0
HasShape true = Exclusive
HasShape false = Shaped

-- a message that has at most 100 levels of messages below it
abbrev pub IsInShape : DynamicMessage → Type 0
IsInShape = Shaped 101
