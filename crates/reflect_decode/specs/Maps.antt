-- What records leave in maps (protobuf.dev, "Encoding", Maps): each is an entry, whose key is its
-- field 1 and whose value its field 2.
use Rattle.std.specs.Prelude.{◌≡◌, ℕ, List, [], ◌∷◌, Option, None, Some}
use Rattle.std.specs.BTreeMap.{insert_entry}
use Rattle.reflect_tables.specs.Types.{PoolType, FieldType, KindType}
use Rattle.reflect_wire.specs.Records.{Payload}
use Rattle.reflect_scalar.specs.Defaults.{default_in}
use Rattle.reflect_scalar.specs.Keys.{key_view}
use Rattle.reflect_scalar.specs.Singles.{Single}
use Rattle.reflect_scalar.specs.declared.map_key.MapKey.{MapKey}
use Rattle.reflect_decode.specs.Keeps.{payloads}
use Rattle.reflect_message.specs.Known.{entry_field}
use Rattle.reflect_decode.specs.Messages.{Takes, MergesMessage}
use Rattle.reflect_message.specs.KindTypes.{IsScalarType, IsMessageType}
use Rattle.reflect_decode.specs.Scalars.{IsLast}
use Rattle.reflect_message.specs.Singles.{single}
use Rattle.reflect_message.specs.Maps.{entries_held, key_order}
use Rattle.reflect_message.specs.Names.{Value}

-- what the records of a field leave as its single value: its default where there are none, else
-- what the last one means
abbrev pub LeavesSingle : PoolType → FieldType → Option Single → List Payload → Type 0
LeavesSingle pool f v [] = v ≡ default_in pool f
LeavesSingle pool f v (p ∷ ps) = (w : Single) × (v ≡ Some w) × IsLast pool f.kind (p ∷ ps) w

-- what those of a key leave as it
abbrev pub LeavesKey : PoolType → FieldType → MapKey → List Payload → Type 0
LeavesKey pool f k ps = IsScalarType f.kind → LeavesSingle pool f (Some (key_view k)) ps

-- what those of a map's value leave as it: of a message type a message that has taken in all of
-- them, also where there are none
abbrev pub LeavesValue : Takes → PoolType → FieldType → Value → List Payload → Type 0
LeavesValue inner pool f v ps = (IsScalarType f.kind → LeavesSingle pool f (single v) ps)
    × (IsMessageType f.kind → MergesMessage (inner.message f.group) pool f.kind None (Some v) ps)

-- a record is an entry of the type: those inside it leave this key and this value
abbrev pub IsEntry : Takes → PoolType → KindType → Payload → MapKey → Value → Type 0
IsEntry inner pool t p k v =
    (keys values : FieldType) × (rs : List (ℕ × Payload)) × (entry_field pool t 1 ≡ Some keys)
    × (entry_field pool t 2 ≡ Some values) × inner.entry p rs
    × LeavesKey pool keys k (payloads 1 rs) × LeavesValue inner pool values v (payloads 2 rs)

-- each record puts its entry into the map, over the one of an equal key
abbrev pub PutEntries : Takes → PoolType → KindType → List (MapKey × Value) → List (MapKey × Value)
    → List Payload → Type 0
PutEntries inner pool t old new [] = new ≡ old
PutEntries inner pool t old new (p ∷ ps) = (k : MapKey) × (v : Value) × IsEntry inner pool t p k v
    × PutEntries inner pool t (insert_entry key_order old k v) new ps

-- a map has taken in the entries
abbrev pub ContinuesMap : Takes → PoolType → KindType → Option Value → Option Value → List Payload
    → Type 0
ContinuesMap inner pool t old new ps = (before after : List (MapKey × Value))
    × (entries_held old ≡ Some before) × (entries_held new ≡ Some after)
    × PutEntries inner pool t before after ps

-- what an entry's records make of the value that stands for their field, which stays where there
-- are none
abbrev pub ChangesPart : Takes → PoolType → FieldType → Value → Value → List Payload → Type 0
ChangesPart inner pool f old new [] = new ≡ old
ChangesPart inner pool f old new (p ∷ ps) =
    (IsScalarType f.kind → LeavesSingle pool f (single new) (p ∷ ps))
    × (IsMessageType f.kind → MergesMessage (inner.message f.group) pool f.kind (Some old)
    (Some new) (p ∷ ps))
