-- Which fields and extensions belong to a message's type.
use Rattle.std.specs.Prelude.{◌≡◌, ◌||◌, ℕ, Bool}
use Rattle.reflect_tables.specs.Types.{PoolType, FieldType, extension_at}
use Rattle.reflect_pool.specs.FieldsLeft.{field_type}
use Rattle.reflect_pool.specs.Shapes.{holds_list, holds_map}
use Rattle.reflect_pool.specs.declared.message.MessageDescriptor.{MessageDescriptor}
use Rattle.reflect_scalar.specs.FieldTypes.{field_pool, extension_pool, extension_type}
use Rattle.reflect_format.specs.declared.target.Target.{Target}
use Rattle.reflect_format.specs.declared.target.Target.TheVariants as target

-- what the pool holds of it
abbrev pub target_type : Target → FieldType
target_type (target.Field f) = field_type f
target_type (target.Extension x) = extension_type x

-- the pool that it stands in
abbrev pub target_pool : Target → PoolType
target_pool (target.Field f) = field_pool f
target_pool (target.Extension x) = extension_pool x

-- it is a list or a map
abbrev pub holds_many : Target → Bool
holds_many t = holds_list (target_pool t) (target_type t)
    || holds_map (target_pool t) (target_type t)

-- the place of the type that it belongs to
abbrev pub type_place : Target → ℕ
type_place (target.Field f) = f.message.index
type_place (target.Extension x) = (extension_at x.pool.now x.index).extendee

-- the field or the extension is one of the type
abbrev pub BelongsTo : MessageDescriptor → Target → Type 0
BelongsTo m t = (target_pool t ≡ m.pool.now) × (type_place t ≡ m.index)
