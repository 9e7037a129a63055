-- What types have no field or extension of, and which of these hold floating-point numbers.
use Rattle.std.specs.Prelude.{◌≡◌, true, false, ℕ, List, Option, None, Some, IfSome, map}
use Rattle.std.specs.Char.{to_ascii_lowercase}
use Rattle.reflect_tables.specs.Types.{message, type_at, extension_at}
use Rattle.reflect_pool.specs.Finds.{FindsField, FindsAny}
use Rattle.reflect_pool.specs.FieldsLeft.{field_type}
use Rattle.reflect_pool.specs.declared.extension.ExtensionDescriptor.{ExtensionDescriptor}
use Rattle.reflect_pool.specs.declared.field.FieldDescriptor.{FieldDescriptor}
use Rattle.reflect_pool.specs.declared.message.MessageDescriptor.{MessageDescriptor}
use Rattle.reflect_scalar.specs.FieldTypes.{field_pool, extension_pool, extension_type}
use Rattle.reflect_scalar.specs.Floats.{HoldsFloats}
use Rattle.reflect_message.specs.Declares.{Extends}

-- no field of the type has the name, or the first that has it is a group
abbrev pub LacksField : MessageDescriptor → List ℕ → Type 0
LacksField m name = (found : Option FieldDescriptor) × FindsField (λ f. f.name ≡ name) m found
    × IfSome found (λ f. (f.message ≡ m) × ((field_type f).group ≡ true))

-- the field is a group, whose type has the name
abbrev pub IsGroupCalled : FieldDescriptor → List ℕ → Type 0
IsGroupCalled f name = ((field_type f).group ≡ true) × (i : ℕ) × ((field_type f).kind ≡ message i)
    × ((type_at (field_pool f) i).name ≡ name)

-- it is none
abbrev pub IsNoGroup : FieldDescriptor → Type 0
IsNoGroup f = (name : List ℕ) → IsGroupCalled f name → ⊥

-- no field of the type has the name in lower case, or the first that has it is no group whose type
-- has the name
abbrev pub LacksGroup : MessageDescriptor → List ℕ → Type 0
LacksGroup m name = (found : Option FieldDescriptor)
    × FindsField (λ f. f.name ≡ map to_ascii_lowercase name) m found
    × IfSome found (λ f. (f.message ≡ m) × (IsGroupCalled f name → ⊥))

-- the field of the name, which is no group
abbrev pub FindsPlain : MessageDescriptor → List ℕ → FieldDescriptor → Type 0
FindsPlain m name f = (f.message ≡ m) × FindsField (λ g. g.name ≡ name) m (Some f)
    × ((field_type f).group ≡ false)

-- it holds floating-point numbers
abbrev pub HasFloatField : MessageDescriptor → List ℕ → Type 0
HasFloatField m name =
    (f : FieldDescriptor) × FindsPlain m name f × HoldsFloats (field_pool f) (field_type f)

-- no extension of the type has the full name
abbrev pub LacksExtension : MessageDescriptor → List ℕ → Type 0
LacksExtension m name = FindsAny (λ x. (x.extendee ≡ m.index) × (x.field.full_name ≡ name))
    m.pool.now None

-- an extension of the type has the full name in brackets and holds floating-point numbers
abbrev pub HasFloatExtension : MessageDescriptor → List ℕ → Type 0
HasFloatExtension m name = (x : ExtensionDescriptor) × Extends m x
    × ((extension_at x.pool.now x.index).json_name ≡ name)
    × HoldsFloats (extension_pool x) (extension_type x)
