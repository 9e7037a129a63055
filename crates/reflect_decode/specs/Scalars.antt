-- What records of scalar kinds leave (protobuf.dev, "Encoding", Repeated Elements, Last One Wins).
use Rattle.std.specs.Prelude.{◌≡◌, Bool, true, false, List, [], ◌∷◌, ◌++◌, Option, Some}
use Rattle.reflect_tables.specs.Types.{PoolType, KindType}
use Rattle.reflect_pool.specs.Kinds.{IsKind}
use Rattle.reflect_pool.specs.declared.kind.Kind.{Kind}
use Rattle.reflect_wire.specs.Records.{Payload}
use Rattle.reflect_scalar.specs.Meaning.{StandsFor}
use Rattle.reflect_scalar.specs.Singles.{Single}
use Rattle.reflect_decode.specs.Elements.{AreElements}
use Rattle.reflect_message.specs.Lists.{items_held}
use Rattle.reflect_decode.specs.Packed.{Continues}
use Rattle.reflect_message.specs.Singles.{single}
use Rattle.reflect_message.specs.Names.{Value}

-- the values of the kind that records of a list spell, one record behind the other
abbrev pub AreValues : PoolType → KindType → List Payload → List Single → Type 0
AreValues pool t [] vs = vs ≡ []
AreValues pool t (p ∷ ps) vs = (kind : Kind) × (here behind : List Single) × IsKind pool kind t
    × AreElements kind p here × AreValues pool t ps behind × (vs ≡ here ++ behind)

-- behind the values of a list stand those of the records
abbrev pub ContinuesWith : PoolType → KindType → Option Value → Option Value → List Payload → Type 0
ContinuesWith pool t old new ps = (before after : List Value) × (vs : List Single)
    × (items_held old ≡ Some before) × (items_held new ≡ Some after) × AreValues pool t ps vs
    × Continues before after vs

-- the value that the last record means
abbrev pub IsLast : PoolType → KindType → List Payload → Single → Type 0
IsLast pool t ps v = (kind : Kind) × (lead : List Payload) × (p : Payload) × IsKind pool kind t
    × (ps ≡ lead ++ p ∷ []) × StandsFor kind p v

-- it is held
abbrev pub HoldsLast : PoolType → KindType → Option Value → List Payload → Type 0
HoldsLast pool t held ps = (v : Value) × (w : Single) × (held ≡ Some v) × (single v ≡ Some w)
    × IsLast pool t ps w

-- a list is continued by the values of the records; else the value of the last one is held
abbrev pub LeavesAs : Bool → PoolType → KindType → Option Value → Option Value → List Payload
    → Type 0
LeavesAs true pool t old new ps = ContinuesWith pool t old new ps
LeavesAs false pool t old new ps = HoldsLast pool t new ps
