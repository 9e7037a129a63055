-- Whether fields hold one value, a list or a map (protobuf.dev, "Language Guide", Maps).
use Rattle.std.specs.Prelude.{Bool, true, false, not, ◌&&◌, is_some}
use Rattle.reflect_tables.specs.Types.{PoolType, FieldType, KindType, message, type_at}
use Rattle.reflect_tables.specs.declared.kind.Cardinality.{Cardinality}
use Rattle.reflect_tables.specs.declared.kind.Cardinality.TheVariants.{Repeated, Required}

-- the field has to be set
abbrev pub is_required : Cardinality → Bool
is_required Required = true
is_required _ = false

abbrev pub is_repeated : Cardinality → Bool
is_repeated Repeated = true
is_repeated _ = false

-- the kind is a message type that is a map's entry
abbrev pub is_entry : PoolType → KindType → Bool
is_entry pool (message i) = is_some (type_at pool i).entry
is_entry pool _ = false

-- a map is a repeated field of entries; a group is none
abbrev pub holds_map : PoolType → FieldType → Bool
holds_map pool f = is_entry pool f.kind && (is_repeated f.cardinality && not f.group)

-- a list is a repeated field that is no map
abbrev pub holds_list : PoolType → FieldType → Bool
holds_list pool f = is_repeated f.cardinality && not (holds_map pool f)
