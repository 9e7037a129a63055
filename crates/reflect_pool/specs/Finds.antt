-- What a lookup among the parts of a type, or among the extensions of a pool, answers.
use Rattle.std.specs.Prelude.{◌≡◌, ◌<◌, ℕ, List, Option, None, Some, All, HoldsAt, length, slice_index_or}
use Rattle.reflect_tables.specs.Finding.{IsFirst}
use Rattle.reflect_tables.specs.Types.{PoolType, FieldType, ValueType, ExtensionType, type_at, enum_at}
use Rattle.reflect_pool.specs.declared.message.MessageDescriptor.{MessageDescriptor}
use Rattle.reflect_pool.specs.declared.field.FieldDescriptor.{FieldDescriptor}
use Rattle.reflect_pool.specs.declared.enums.EnumDescriptor.{EnumDescriptor}
use Rattle.reflect_pool.specs.declared.enums.EnumValueDescriptor.{EnumValueDescriptor}
use Rattle.reflect_pool.specs.declared.extension.ExtensionDescriptor.{ExtensionDescriptor}

-- the first field of the type with P, or none where no field has it
abbrev pub FindsField : (FieldType → Type 0) → MessageDescriptor → Option FieldDescriptor → Type 0
FindsField P m None = IsFirst P (type_at m.pool.now m.index).fields None
FindsField P m (Some f) = IsFirst P (type_at m.pool.now m.index).fields (Some f.index)

-- the first value of the enum with P, or none where no value has it
abbrev pub FindsValue : (ValueType → Type 0) → EnumDescriptor → Option EnumValueDescriptor → Type 0
FindsValue P e None = IsFirst P (enum_at e.pool.now e.index).values None
FindsValue P e (Some v) = IsFirst P (enum_at e.pool.now e.index).values (Some v.index)

-- the place of the one element with P; none where no element has it
abbrev pub IsOnly : {X : Type 0} → (X → Type 0) → List X → Option ℕ → Type 0
IsOnly P xs (Some i) = (i < length xs)
    × (HoldsAt P xs i × ((k : ℕ) (d : _) → k < length xs → P (slice_index_or xs k d) → k ≡ i))
IsOnly P xs None = All (λ x. P x → ⊥) xs

-- the first extension of the pool with P, or none where no extension has it
abbrev pub FindsAny : (ExtensionType → Type 0) → PoolType → Option ExtensionDescriptor → Type 0
FindsAny P p None = IsFirst P p.extensions None
FindsAny P p (Some x) = IsFirst P p.extensions (Some x.index)
