-- Which fields belong to a message's type.
use Rattle.std.specs.Prelude.{◌≡◌, ◌≢◌, ◌⊎◌, ℕ, Some}
use Rattle.reflect_tables.specs.Types.{PoolType, type_at, extension_at}
use Rattle.reflect_pool.specs.FieldsLeft.{field_type}
use Rattle.reflect_pool.specs.Finds.{FindsField, FindsAny}
use Rattle.reflect_pool.specs.declared.message.MessageDescriptor.{MessageDescriptor}
use Rattle.reflect_pool.specs.declared.field.FieldDescriptor.{FieldDescriptor}
use Rattle.reflect_pool.specs.declared.extension.ExtensionDescriptor.{ExtensionDescriptor}
use Rattle.reflect_scalar.specs.FieldTypes.{field_pool, extension_pool, extension_type}
use Rattle.reflect_scalar.specs.Floats.{HoldsFloats}

-- the field is one of the type
abbrev pub Declares : MessageDescriptor → FieldDescriptor → Type 0
Declares m f = (f.message.index ≡ m.index) × (f.message.pool.now ≡ m.pool.now)

-- the extension is one of the type
abbrev pub Extends : MessageDescriptor → ExtensionDescriptor → Type 0
Extends m x = (x.pool.now ≡ m.pool.now) × ((extension_at x.pool.now x.index).extendee ≡ m.index)

-- the records of its number are the field's: it is the first of the type with the number, and holds
-- no floating-point numbers
abbrev pub Owns : MessageDescriptor → FieldDescriptor → Type 0
Owns m f = Declares m f × FindsField (λ g. g.number ≡ (field_type f).number) m (Some f)
    × (HoldsFloats (field_pool f) (field_type f) → ⊥)

-- the same of an extension: it is the first of the pool that extends the type by the number (a
-- field with the number comes before it)
abbrev pub OwnsExtension : MessageDescriptor → ExtensionDescriptor → Type 0
OwnsExtension m x = Extends m x
    × FindsAny (λ y. (y.extendee ≡ m.index) × (y.field.number ≡ (extension_type x).number))
    m.pool.now (Some x) × (HoldsFloats (extension_pool x) (extension_type x) → ⊥)

-- no field of the type has the records of the number
abbrev pub NoField : MessageDescriptor → ℕ → Type 0
NoField m n = (f : FieldDescriptor) → Owns m f → (field_type f).number ≢ n

-- a field or an extension of the type has the records of the number
abbrev pub IsDeclared : MessageDescriptor → ℕ → Type 0
IsDeclared m n = ((f : FieldDescriptor) × Owns m f × ((field_type f).number ≡ n))
    ⊎ ((x : ExtensionDescriptor) × OwnsExtension m x × ((extension_type x).number ≡ n))

-- a type of a pool is that of the descriptor, as descriptors are compared: by place and full name
abbrev pub IsOneType : PoolType → ℕ → MessageDescriptor → Type 0
IsOneType pool i m = (i ≡ m.index)
    × ((type_at pool i).full_name ≡ (type_at m.pool.now m.index).full_name)

-- the field is one of the type, and one that messages hold
abbrev pub IsHeldField : MessageDescriptor → FieldDescriptor → Type 0
IsHeldField m f = IsOneType (field_pool f) f.message.index m
    × (HoldsFloats (field_pool f) (field_type f) → ⊥)

-- the same of an extension
abbrev pub IsHeldExtension : MessageDescriptor → ExtensionDescriptor → Type 0
IsHeldExtension m x =
    IsOneType (extension_pool x) (extension_at x.pool.now x.index).extendee m
    × (HoldsFloats (extension_pool x) (extension_type x) → ⊥)
