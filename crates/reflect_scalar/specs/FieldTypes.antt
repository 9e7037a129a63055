-- What the pool holds of fields and extensions.
use Rattle.std.specs.Prelude.{ℕ, Option, None, option_map}
use Rattle.reflect_tables.specs.Types.{FieldType, PoolType, extension_at}
use Rattle.reflect_pool.specs.FieldsLeft.{field_type}
use Rattle.reflect_pool.specs.declared.field.FieldDescriptor.{FieldDescriptor}
use Rattle.reflect_pool.specs.declared.extension.ExtensionDescriptor.{ExtensionDescriptor}
use Rattle.reflect_scalar.specs.declared.field_like.AnyField.{AnyField}
use Rattle.reflect_scalar.specs.declared.field_like.AnyField.TheVariants.{Field, Extension}

abbrev pub extension_type : ExtensionDescriptor → FieldType
extension_type x = (extension_at x.pool.now x.index).field

abbrev pub either_type : AnyField → FieldType
either_type (Field f) = field_type f
either_type (Extension x) = extension_type x

-- the pools that they stand in
abbrev pub field_pool : FieldDescriptor → PoolType
field_pool f = f.message.pool.now

abbrev pub extension_pool : ExtensionDescriptor → PoolType
extension_pool x = x.pool.now

abbrev pub either_pool : AnyField → PoolType
either_pool (Field f) = field_pool f
either_pool (Extension x) = extension_pool x

-- the place of their type, and that of the oneof in it that they are members of
abbrev pub field_oneof : FieldDescriptor → Option (ℕ × ℕ)
field_oneof f = option_map (λ place. (f.message.index, place)) (field_type f).oneof

abbrev pub either_oneof : AnyField → Option (ℕ × ℕ)
either_oneof (Field f) = field_oneof f
either_oneof (Extension x) = None
