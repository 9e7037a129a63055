-- What kinds of fields tell of their records.
use Rattle.std.proofs.Common.{◌≡◌, inl, inr, Bool, true, false, not, ◌&&◌, List, subst}
use Rattle.reflect_tables.specs.Types.{PoolType, FieldType, KindType, double, float, int32, int64, uint32, uint64, sint32, sint64, fixed32, fixed64, sfixed32, sfixed64, bool, string, bytes, message, enumeration}
use Rattle.reflect_pool.specs.Kinds.{IsKind}
use Rattle.reflect_pool.specs.Shapes.{is_entry, is_repeated, holds_list, holds_map}
use Rattle.reflect_pool.specs.declared.kind.Kind.{Kind}
use Rattle.reflect_pool.specs.declared.kind.Kind.TheVariants as kinds
use Rattle.reflect_wire.specs.Records.{Payload}
use Rattle.reflect_scalar.specs.Singles.{Single}
use Rattle.reflect_decode.specs.Elements.{AreElements}
use Rattle.reflect_decode.specs.Messages.{Taken, IsMade}
use Rattle.reflect_message.specs.KindTypes.{IsScalarType, IsMessageType}
use Rattle.reflect_message.specs.Names.{Value}

-- a scalar kind is no message
pub both_kinds : (t : KindType) → IsScalarType t → IsMessageType t → ⊥
both_kinds (message i) scalar type = scalar
both_kinds double scalar type = scalar
both_kinds float scalar type = scalar
both_kinds int32 scalar type = type
both_kinds int64 scalar type = type
both_kinds uint32 scalar type = type
both_kinds uint64 scalar type = type
both_kinds sint32 scalar type = type
both_kinds sint64 scalar type = type
both_kinds fixed32 scalar type = type
both_kinds fixed64 scalar type = type
both_kinds sfixed32 scalar type = type
both_kinds sfixed64 scalar type = type
both_kinds bool scalar type = type
both_kinds string scalar type = type
both_kinds bytes scalar type = type
both_kinds (enumeration i) scalar type = type

-- of a scalar kind no message is made
pub no_message : (inner : Taken) (pool : PoolType) (t : KindType) (kind : Kind) (p : Payload) (v : Value) → IsKind pool kind t → IsScalarType t → IsMade inner kind p v → ⊥
no_message inner pool t kinds.Double p v is scalar h = h
no_message inner pool t kinds.Float p v is scalar h = h
no_message inner pool t kinds.Int32 p v is scalar h = h
no_message inner pool t kinds.Int64 p v is scalar h = h
no_message inner pool t kinds.Uint32 p v is scalar h = h
no_message inner pool t kinds.Uint64 p v is scalar h = h
no_message inner pool t kinds.Sint32 p v is scalar h = h
no_message inner pool t kinds.Sint64 p v is scalar h = h
no_message inner pool t kinds.Fixed32 p v is scalar h = h
no_message inner pool t kinds.Fixed64 p v is scalar h = h
no_message inner pool t kinds.Sfixed32 p v is scalar h = h
no_message inner pool t kinds.Sfixed64 p v is scalar h = h
no_message inner pool t kinds.Bool p v is scalar h = h
no_message inner pool t kinds.String p v is scalar h = h
no_message inner pool t kinds.Bytes p v is scalar h = h
no_message inner pool t (kinds.Enum d) p v is scalar h = h
no_message inner pool t (kinds.Message d) p v is scalar h = subst IsScalarType is.1 scalar

-- of a message kind no single values are read
pub no_elements : (pool : PoolType) (t : KindType) (kind : Kind) (p : Payload) (vs : List Single) → IsKind pool kind t → IsMessageType t → AreElements kind p vs → ⊥
no_elements pool t kinds.Double p vs is type h = subst IsMessageType is type
no_elements pool t kinds.Float p vs is type h = subst IsMessageType is type
no_elements pool t kinds.Int32 p vs is type h = subst IsMessageType is type
no_elements pool t kinds.Int64 p vs is type h = subst IsMessageType is type
no_elements pool t kinds.Uint32 p vs is type h = subst IsMessageType is type
no_elements pool t kinds.Uint64 p vs is type h = subst IsMessageType is type
no_elements pool t kinds.Sint32 p vs is type h = subst IsMessageType is type
no_elements pool t kinds.Sint64 p vs is type h = subst IsMessageType is type
no_elements pool t kinds.Fixed32 p vs is type h = subst IsMessageType is type
no_elements pool t kinds.Fixed64 p vs is type h = subst IsMessageType is type
no_elements pool t kinds.Sfixed32 p vs is type h = subst IsMessageType is type
no_elements pool t kinds.Sfixed64 p vs is type h = subst IsMessageType is type
no_elements pool t kinds.Bool p vs is type h = subst IsMessageType is type
no_elements pool t kinds.String p vs is type h = subst IsMessageType is type
no_elements pool t kinds.Bytes p vs is type h = subst IsMessageType is type
no_elements pool t (kinds.Enum d) p vs is type h = subst IsMessageType is.1 type
no_elements pool t (kinds.Message d) p vs is type (inl h) = h.2
no_elements pool t (kinds.Message d) p vs is type (inr h) = absurd (cc (h.2))

entry_message : (pool : PoolType) (t : KindType) (b : Bool) → (is_entry pool t && b) ≡ true → IsMessageType t
entry_message pool double b e = absurd (cc (e))
entry_message pool float b e = absurd (cc (e))
entry_message pool int32 b e = absurd (cc (e))
entry_message pool int64 b e = absurd (cc (e))
entry_message pool uint32 b e = absurd (cc (e))
entry_message pool uint64 b e = absurd (cc (e))
entry_message pool sint32 b e = absurd (cc (e))
entry_message pool sint64 b e = absurd (cc (e))
entry_message pool fixed32 b e = absurd (cc (e))
entry_message pool fixed64 b e = absurd (cc (e))
entry_message pool sfixed32 b e = absurd (cc (e))
entry_message pool sfixed64 b e = absurd (cc (e))
entry_message pool bool b e = absurd (cc (e))
entry_message pool string b e = absurd (cc (e))
entry_message pool bytes b e = absurd (cc (e))
entry_message pool (enumeration i) b e = absurd (cc (e))
entry_message pool (message i) b e = tt

-- a map's entries are messages
pub map_is_message : (pool : PoolType) (f : FieldType) → holds_map pool f ≡ true → IsMessageType f.kind
map_is_message pool f e = entry_message pool f.kind (is_repeated f.cardinality && not f.group) e

no_both : (a b : Bool) → (a && not b) ≡ true → b ≡ true → ⊥
no_both true true e k = absurd (cc (e))
no_both true false e k = absurd (cc (k))
no_both false b e k = absurd (cc (e))

-- a list is no map
pub list_no_map : (pool : PoolType) (f : FieldType) → holds_list pool f ≡ true → holds_map pool f ≡ true → ⊥
list_no_map pool f = no_both (is_repeated f.cardinality) (holds_map pool f)
