-- The type that keeps a message of any type (protobuf.dev, "Any").
use Rattle.std.specs.Prelude.{◌≡◌, ℕ, Bool, false, not, Option, None, Some, codes}
use Rattle.reflect_tables.specs.Types.{PoolType, FieldType, KindType, string, bytes, type_at}
use Rattle.reflect_pool.specs.Parts.{type_of_oneof}
use Rattle.reflect_pool.specs.Shapes.{holds_list, holds_map}
use Rattle.reflect_pool.specs.declared.message.MessageDescriptor.{MessageDescriptor}
use Rattle.reflect_message.specs.Known.{numbered_field}

-- a field of the type at the place is a member of a oneof, and not only for being optional
abbrev pub shares : PoolType → ℕ → FieldType → Bool
shares pool i f = elim f.oneof [ None ↦ false | Some k ↦ not (type_of_oneof pool i k).synthetic ]

-- it holds one value, and shares no oneof
abbrev pub StandsAlone : PoolType → ℕ → FieldType → Type 0
StandsAlone pool i f = (holds_list pool f ≡ false) × (holds_map pool f ≡ false)
    × (shares pool i f ≡ false)

-- there is a field, which stands alone and holds this kind
abbrev pub IsLone : PoolType → ℕ → KindType → Option FieldType → Type 0
IsLone pool i kind None = ⊥
IsLone pool i kind (Some f) = (f.kind ≡ kind) × StandsAlone pool i f

-- the type keeps a message of any type: it has the name, its field 1 holds a string and its field 2
-- bytes
abbrev pub IsAny : MessageDescriptor → Type 0
IsAny m =
    ((type_at m.pool.now m.index).full_name ≡ codes "google.protobuf.Any")
    × IsLone m.pool.now m.index string (numbered_field m.pool.now m.index 1)
    × IsLone m.pool.now m.index bytes (numbered_field m.pool.now m.index 2)
