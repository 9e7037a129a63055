-- What the records of a message leave in its fields and extensions.
use Rattle.std.specs.Prelude.{◌≡◌, ◌⊎◌, ℕ, List, [], ◌∷◌, ◌++◌, Option, None}
use Rattle.reflect_entries.specs.Entries.{value_at}
use Rattle.reflect_pool.specs.FieldsLeft.{field_type}
use Rattle.reflect_pool.specs.declared.message.MessageDescriptor.{MessageDescriptor}
use Rattle.reflect_pool.specs.declared.field.FieldDescriptor.{FieldDescriptor}
use Rattle.reflect_pool.specs.declared.extension.ExtensionDescriptor.{ExtensionDescriptor}
use Rattle.reflect_scalar.specs.FieldTypes.{field_pool, extension_pool, extension_type}
use Rattle.reflect_wire.specs.Records.{Payload}
use Rattle.reflect_message.specs.Declares.{Owns, OwnsExtension, NoField}
use Rattle.reflect_decode.specs.Keeps.{numbered, payloads}
use Rattle.reflect_decode.specs.Messages.{Takes}
use Rattle.reflect_message.specs.Oneofs.{IsSibling}
use Rattle.reflect_decode.specs.Taking.{Leaves}
use Rattle.reflect_message.specs.Names.{Value}

-- no record is one of another member of the field's oneof
abbrev pub NoSibling : MessageDescriptor → FieldDescriptor → List (ℕ × Payload) → Type 0
NoSibling m f rs = (n : ℕ) → IsSibling m f n → numbered n rs ≡ []

-- the field's records leave their values; the last record of another member of its oneof unsets it,
-- and those behind it count
abbrev pub LeavesField : Takes → MessageDescriptor → FieldDescriptor → Option Value → Option Value
    → List (ℕ × Payload) → Type 0
LeavesField inner m f old new rs =
    (NoSibling m f rs × Leaves inner (field_pool f) (field_type f) old new
    (payloads (field_type f).number rs))
    ⊎ ((before behind : List (ℕ × Payload)) × (r : ℕ × Payload) × (rs ≡ before ++ r ∷ behind)
    × IsSibling m f r.0 × NoSibling m f behind
    × Leaves inner (field_pool f) (field_type f) None new
    (payloads (field_type f).number behind))

-- the fields hold what the records leave where nothing stood
abbrev pub HoldFields : Takes → MessageDescriptor → List (ℕ × Value) → List (ℕ × Payload) → Type 0
HoldFields inner m held rs = (f : FieldDescriptor) → Owns m f
    → LeavesField inner m f None (value_at held (field_type f).number) rs

-- an extension's records leave their values, where no field has its number
abbrev pub LeavesExtension : Takes → MessageDescriptor → ExtensionDescriptor → Option Value
    → Option Value → List (ℕ × Payload) → Type 0
LeavesExtension inner m x old new rs = NoField m (extension_type x).number
    → Leaves inner (extension_pool x) (extension_type x) old new
    (payloads (extension_type x).number rs)

-- the extensions hold what the records leave where nothing stood, and nothing under the number of a
-- field
abbrev pub HoldExtensions : Takes → MessageDescriptor → List (ℕ × Value) → List (ℕ × Payload)
    → Type 0
HoldExtensions inner m held rs =
    ((x : ExtensionDescriptor) → OwnsExtension m x
    → LeavesExtension inner m x None (value_at held (extension_type x).number) rs)
    × ((f : FieldDescriptor) → Owns m f → value_at held (field_type f).number ≡ None)
