-- What stands for a field that is not set (protobuf.dev, "Language Guide", Default Field Values).
use Rattle.std.specs.Prelude.{◌≡◌, true, false, [], None, Some}
use Rattle.reflect_tables.specs.Types.{PoolType, FieldType}
use Rattle.reflect_pool.specs.Shapes.{holds_list, holds_map}
use Rattle.reflect_pool.specs.declared.kind.Kind.{Kind}
use Rattle.reflect_pool.specs.declared.kind.Kind.TheVariants as kinds
use Rattle.reflect_scalar.specs.Defaults.{default_in}
use Rattle.reflect_scalar.specs.Kinds as scalars
use Rattle.reflect_message.specs.Contents.{content_of, nothing}
use Rattle.reflect_message.specs.Lists.{list_items}
use Rattle.reflect_message.specs.Maps.{map_entries}
use Rattle.reflect_message.specs.Messages.{IsStart, message_in}
use Rattle.reflect_message.specs.KindTypes.{IsScalarType, IsMessageType}
use Rattle.reflect_message.specs.Singles.{single}
use Rattle.reflect_message.specs.Names.{DynamicMessage, Value}

-- of one value, what its declaration or its kind says, of a message one of the type in which
-- nothing is set
abbrev pub IsDefaultOne : PoolType → FieldType → Value → Type 0
IsDefaultOne pool f v = (IsScalarType f.kind → single v ≡ default_in pool f)
    × (IsMessageType f.kind → (m : DynamicMessage) × (message_in v ≡ Some m)
    × IsStart pool f.kind None m)

-- the value is the field's default: an empty list, an empty map, or that of one value
abbrev pub IsDefault : PoolType → FieldType → Value → Type 0
IsDefault pool f v =
    (holds_list pool f ≡ true → list_items v ≡ Some [])
    × (holds_map pool f ≡ true → map_entries v ≡ Some [])
    × (holds_list pool f ≡ false → holds_map pool f ≡ false → IsDefaultOne pool f v)

-- the value is the default of a kind: of a message one of the type in which nothing is set
abbrev pub IsKindDefault : Kind → Value → Type 0
IsKindDefault (kinds.Message d) v = (m : DynamicMessage) × (message_in v ≡ Some m)
    × (m.descriptor ≡ d) × (content_of m ≡ nothing)
IsKindDefault kind v = scalars.IsDefault kind (single v)
