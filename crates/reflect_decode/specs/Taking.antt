-- What records leave under the number of a field (protobuf.dev, "Encoding", Repeated Elements, Last
-- One Wins).
use Rattle.std.specs.Prelude.{◌≡◌, Bool, true, false, List, [], ◌∷◌, ◌++◌, Option, Some}
use Rattle.reflect_tables.specs.Types.{PoolType, FieldType, KindType}
use Rattle.reflect_pool.specs.Kinds.{IsKind}
use Rattle.reflect_pool.specs.Shapes.{holds_list, holds_map}
use Rattle.reflect_pool.specs.declared.kind.Kind.{Kind}
use Rattle.reflect_wire.specs.Records.{Payload}
use Rattle.reflect_message.specs.Lists.{items_held}
use Rattle.reflect_decode.specs.Maps.{ContinuesMap}
use Rattle.reflect_decode.specs.Messages.{Taken, Takes, IsMade, MergesMessage}
use Rattle.reflect_message.specs.KindTypes.{IsScalarType, IsMessageType}
use Rattle.reflect_decode.specs.Scalars.{LeavesAs}
use Rattle.reflect_message.specs.Names.{Value}

-- each record makes a message, one behind the other
abbrev pub AreMade : Taken → PoolType → KindType → List Payload → List Value → Type 0
AreMade taken pool t [] vs = vs ≡ []
AreMade taken pool t (p ∷ ps) vs = (kind : Kind) × (v : Value) × (behind : List Value)
    × IsKind pool kind t × IsMade taken kind p v × AreMade taken pool t ps behind
    × (vs ≡ v ∷ behind)

-- behind the values of a list stand the messages of the records
abbrev pub AddsMessages : Taken → PoolType → KindType → Option Value → Option Value → List Payload
    → Type 0
AddsMessages taken pool t old new ps = (before after added : List Value)
    × (items_held old ≡ Some before) × (items_held new ≡ Some after) × AreMade taken pool t ps added
    × (after ≡ before ++ added)

-- a list gets a message of each record; else one message takes in all of them
abbrev pub TakesAs : Bool → Taken → PoolType → KindType → Option Value → Option Value → List Payload
    → Type 0
TakesAs true taken pool t old new ps = AddsMessages taken pool t old new ps
TakesAs false taken pool t old new ps = MergesMessage taken pool t old new ps

-- without records what is held stays; those of a field change it as its kind, its form and its
-- label say
abbrev pub Leaves : Takes → PoolType → FieldType → Option Value → Option Value → List Payload
    → Type 0
Leaves inner pool f old new [] = new ≡ old
Leaves inner pool f old new (p ∷ ps) =
    (IsScalarType f.kind → LeavesAs (holds_list pool f) pool f.kind old new (p ∷ ps))
    × (IsMessageType f.kind → holds_map pool f ≡ false
    → TakesAs (holds_list pool f) (inner.message f.group) pool f.kind old new (p ∷ ps))
    × (holds_map pool f ≡ true → ContinuesMap inner pool f.kind old new (p ∷ ps))
