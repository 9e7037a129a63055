-- What merging leaves of fields and extensions of which no record is read.
use Rattle.std.specs.Prelude.{◌≡◌, ◌≢◌, ◌⊎◌, ℕ, List, [], None}
use Rattle.std.specs.Option.{IsSome}
use Rattle.reflect_entries.specs.Entries.{value_at}
use Rattle.reflect_pool.specs.FieldsLeft.{field_type}
use Rattle.reflect_pool.specs.declared.message.MessageDescriptor.{MessageDescriptor}
use Rattle.reflect_pool.specs.declared.field.FieldDescriptor.{FieldDescriptor}
use Rattle.reflect_pool.specs.declared.extension.ExtensionDescriptor.{ExtensionDescriptor}
use Rattle.reflect_scalar.specs.FieldTypes.{extension_type}
use Rattle.reflect_wire.specs.Records.{Payload}
use Rattle.reflect_message.specs.Contents.{Content}
use Rattle.reflect_message.specs.Declares.{Declares, NoField, Owns, OwnsExtension}
use Rattle.reflect_decode.specs.Fields.{LeavesField, LeavesExtension}
use Rattle.reflect_decode.specs.Keeps.{numbered, KeepsUndeclared}
use Rattle.reflect_decode.specs.Messages.{Takes}
use Rattle.reflect_decode.specs.Ordered.{HoldsInOrder, IsOrdered}
use Rattle.reflect_message.specs.Oneofs.{AreChosen}
use Rattle.reflect_message.specs.Held.{Same}
use Rattle.reflect_message.specs.Names.{Value}

-- a record of a member of a oneof is read
abbrev pub ReadsMember : MessageDescriptor → List (ℕ × Payload) → Type 0
ReadsMember m read = (f : FieldDescriptor) × Declares m f × IsSome (field_type f).oneof
    × (numbered (field_type f).number read ≢ [])

-- no extension of the type has the records of the number
abbrev pub NoExtension : MessageDescriptor → ℕ → Type 0
NoExtension m n = (x : ExtensionDescriptor) → OwnsExtension m x → (extension_type x).number ≢ n

-- no record of the number is read, or none goes into what is held
abbrev pub IsSpared : List (ℕ × Payload) → ℕ → Type 0 → Type 0
IsSpared read n nowhere = (numbered n read ≡ []) ⊎ nowhere

-- of a number that is not read, and of one whose records no field has, what stands stays, but that
-- a member of a oneof may unset it
pub record SparesFields (m : MessageDescriptor) (old new : List (ℕ × Value))
    (read : List (ℕ × Payload)) : Type 0 where
  pub spared : (n : ℕ) → IsSpared read n (NoField m n) → Same old new n
      ⊎ ((value_at new n ≡ None) × ReadsMember m read)

-- and where no extension has them, what stands among extensions stays
pub record SparesExtensions (m : MessageDescriptor) (old new : List (ℕ × Value))
    (read : List (ℕ × Payload)) : Type 0 where
  pub spared : (n : ℕ) → IsSpared read n (NoExtension m n) → Same old new n

-- nothing stands under such numbers
abbrev pub HoldsRead : (nowhere : ℕ → Type 0) → List (ℕ × Value) → List (ℕ × Payload) → Type 0
HoldsRead nowhere held read = (n : ℕ) → IsSpared read n (nowhere n) → value_at held n ≡ None

-- where one member of each oneof at most holds anything, and it is noted, the records leave their
-- values, and it stays so
pub record FillsFields (inner : Takes) (m : MessageDescriptor) (old new : Content)
    (read : List (ℕ × Payload)) : Type 0 where
  pub each : (f : FieldDescriptor) → Owns m f
      → LeavesField inner m f (value_at old.fields (field_type f).number)
      (value_at new.fields (field_type f).number) read
  pub chosen : AreChosen m new.choices new.fields

-- the extensions' records leave their values, and what stands under the numbers of fields stays
pub record FillsExtensions (inner : Takes) (m : MessageDescriptor) (old new : List (ℕ × Value))
    (read : List (ℕ × Payload)) : Type 0 where
  pub each : (x : ExtensionDescriptor) → OwnsExtension m x
      → LeavesExtension inner m x (value_at old (extension_type x).number)
      (value_at new (extension_type x).number) read
  pub behind : (f : FieldDescriptor) → Owns m f → Same old new (field_type f).number

-- the records are taken in: what they do not name stays, those of undeclared numbers are kept and
-- stand nowhere else, and what was in the order of its numbers stays so, here and at each depth
pub record Merges (inner : Takes) (m : MessageDescriptor) (old new : Content)
    (read : List (ℕ × Payload)) : Type 0 where
  pub fields : SparesFields m old.fields new.fields read
  pub filled : AreChosen m old.choices old.fields → FillsFields inner m old new read
  pub extensions : SparesExtensions m old.extensions new.extensions read
  pub extended : FillsExtensions inner m old.extensions new.extensions read
  pub unknown : KeepsUndeclared m old.unknown new.unknown read
  pub ordered : IsOrdered old → IsOrdered new
  pub in_order : HoldsInOrder old → HoldsInOrder new
