-- Why bytes are refused as records of a message type, or of a group: what stands there, and what is
-- told of it.
use Rattle.std.specs.Prelude.{◌≡◌, ◌≢◌, ◌⊎◌, ℕ, zero, suc, Bool, true, false, List, [], Option, None, Some}
use Rattle.reflect_tables.specs.Types.{PoolType, FieldType, KindType}
use Rattle.reflect_tables.specs.Types as types
use Rattle.reflect_pool.specs.Kinds.{IsKind}
use Rattle.reflect_pool.specs.Shapes.{holds_list, holds_map}
use Rattle.reflect_pool.specs.declared.kind.Kind.{Kind}
use Rattle.reflect_pool.specs.declared.kind.Kind.TheVariants as kinds
use Rattle.reflect_wire.specs.Faults.{KeyFault, DelimitedFault, ValueFault, IsTooDeep, IsEndMismatch, IsOtherEnd}
use Rattle.reflect_wire.specs.Key.{IsKey, IsDelimited}
use Rattle.reflect_wire.specs.Reads.{Fronts, NoFront}
use Rattle.reflect_wire.specs.Records.{Payload, IsValue, SpellsRecords}
use Rattle.reflect_wire.specs.Views.{records_of}
use Rattle.reflect_wire.specs.declared.wire_error.WireError.{WireError}
use Rattle.reflect_wire.specs.declared.wire_key.WireKey.{WireKey}
use Rattle.reflect_wire.specs.declared.wire_key.WireType.TheVariants.{LengthDelimited, StartGroup, EndGroup}
use Rattle.reflect_scalar.specs.Defaults.{default_in}
use Rattle.reflect_scalar.specs.Kinds.{wire_type, packs}
use Rattle.reflect_scalar.specs.Meaning.{IsBadWireType, ScalarFault}
use Rattle.reflect_scalar.specs.Singles.{Single, truth, int32, int64, uint32, uint64, text}
use Rattle.reflect_message.specs.KindTypes.{IsMessageType}
use Rattle.reflect_message.specs.Known.{entry_field}
use Rattle.reflect_decode.specs.Accepts.{declared_at}
use Rattle.reflect_decode.specs.Merging.{LeadsOn}
use Rattle.reflect_decode.specs.Packed.{PackedFault}

-- why bytes are refused as a message of the type at a place of a pool: up to their end, or up to
-- the end of the group of a number
abbrev pub Refusal : Type 1
Refusal = PoolType → ℕ → Option ℕ → List ℕ → WireError → Type 0

-- behind the key of a message's field: what `inner` says of a message one level below
abbrev pub MessageFault : Refusal → Bool → PoolType → ℕ → WireKey → List ℕ → WireError → Type 0
MessageFault inner false pool i key bytes e =
    ((key.wire ≢ LengthDelimited) × IsBadWireType e)
    ⊎ ((key.wire ≡ LengthDelimited)
    × (DelimitedFault bytes e
    ⊎ ((body rest : List ℕ) × Fronts IsDelimited bytes body rest × inner pool i None body e)))
MessageFault inner true pool i key bytes e =
    ((key.wire ≢ StartGroup) × IsBadWireType e)
    ⊎ ((key.wire ≡ StartGroup) × inner pool i (Some key.number) bytes e)

abbrev pub KindFault : Refusal → Bool → Kind → WireKey → List ℕ → WireError → Type 0
KindFault inner grouped (kinds.Message d) key bytes e =
    MessageFault inner grouped d.pool.now d.index key bytes e
KindFault inner grouped kind key bytes e = ScalarFault kind key.wire bytes e

-- the key is that of a packed record
abbrev pub IsPackedKey : Kind → WireKey → Type 0
IsPackedKey kind key = (key.wire ≡ LengthDelimited) × (packs (wire_type kind) ≡ true)

abbrev pub RowFault : Kind → List ℕ → WireError → Type 0
RowFault kind bytes e =
    DelimitedFault bytes e ⊎ ((body rest : List ℕ) × Fronts IsDelimited bytes body rest
    × PackedFault kind body e)

abbrev pub ElementFault : Refusal → Bool → Kind → WireKey → List ℕ → WireError → Type 0
ElementFault inner grouped kind key bytes e =
    ((IsPackedKey kind key → ⊥) × KindFault inner grouped kind key bytes e)
    ⊎ (IsPackedKey kind key × RowFault kind bytes e)

abbrev pub OneFault : Refusal → PoolType → FieldType → WireKey → List ℕ → WireError → Type 0
OneFault inner pool f key bytes e = (kind : Kind) × IsKind pool kind f.kind
    × KindFault inner f.group kind key bytes e

abbrev pub ListedFault : Refusal → PoolType → FieldType → WireKey → List ℕ → WireError → Type 0
ListedFault inner pool f key bytes e = (kind : Kind) × IsKind pool kind f.kind
    × ElementFault inner f.group kind key bytes e

-- kinds that keys of maps have, and values that are keys (protobuf.dev, "Language Guide", Maps)
abbrev pub IsKeyKind : KindType → Type 0
IsKeyKind types.double = ⊥
IsKeyKind types.float = ⊥
IsKeyKind types.bytes = ⊥
IsKeyKind (types.message i) = ⊥
IsKeyKind (types.enumeration i) = ⊥
IsKeyKind _ = Unit {0}

abbrev pub IsKeyValue : Option Single → Type 0
IsKeyValue (Some (truth b)) = Unit {0}
IsKeyValue (Some (int32 z)) = Unit {0}
IsKeyValue (Some (int64 z)) = Unit {0}
IsKeyValue (Some (uint32 n)) = Unit {0}
IsKeyValue (Some (uint64 n)) = Unit {0}
IsKeyValue (Some (text t)) = Unit {0}
IsKeyValue _ = ⊥

-- the field can be that of a map's keys
abbrev pub HoldsKeys : PoolType → FieldType → Type 0
HoldsKeys pool f = IsKeyKind f.kind × IsKeyValue (default_in pool f)

-- a record that is no field's: no value of the key's form stands there, and this is why
abbrev pub OtherFault : ℕ → WireKey → List ℕ → WireError → Type 0
OtherFault levels key bytes e = NoFront (IsValue levels key) bytes × ValueFault levels key bytes e

-- a record of a map's entry: of its key, of its value, or another
abbrev pub PartFault : ℕ → Refusal → PoolType → FieldType → PoolType → FieldType → WireKey → List ℕ
    → WireError → Type 0
PartFault levels inner p keys q values key bytes e =
    ((key.number ≡ 1) × OneFault inner p keys key bytes e)
    ⊎ ((key.number ≡ 2) × OneFault inner q values key bytes e)
    ⊎ ((key.number ≢ 1) × (key.number ≢ 2) × OtherFault levels key bytes e)

-- the bytes of an entry
abbrev pub EntryFault : ℕ → Refusal → PoolType → FieldType → PoolType → FieldType → List ℕ
    → WireError → Type 0
EntryFault levels inner p keys q values body e =
    (IsMessageType values.kind × (levels ≡ 0) × IsTooDeep e)
    ⊎ ((HoldsKeys p keys → ⊥) × IsBadWireType e)
    ⊎ ((rs : List (ℕ × Payload)) × (rest : List ℕ)
    × Fronts (SpellsRecords levels) body (records_of rs) rest × (rest ≢ [])
    × (KeyFault rest e ⊎ ((key : WireKey) × (behind : List ℕ) × Fronts IsKey rest key behind
    × PartFault levels inner p keys q values key behind e)))

-- behind the key of a map's field
abbrev pub MapFault : ℕ → Refusal → PoolType → KindType → WireKey → List ℕ → WireError → Type 0
MapFault levels inner pool t key bytes e =
    ((key.wire ≢ LengthDelimited) × IsBadWireType e)
    ⊎ (((entry_field pool t 1 ≡ None) ⊎ (entry_field pool t 2 ≡ None)) × IsBadWireType e)
    ⊎ ((key.wire ≡ LengthDelimited) × DelimitedFault bytes e)
    ⊎ ((keys values : FieldType) × (body rest : List ℕ) × (entry_field pool t 1 ≡ Some keys)
    × (entry_field pool t 2 ≡ Some values)
    × (key.wire ≡ LengthDelimited) × Fronts IsDelimited bytes body rest
    × EntryFault levels inner pool keys pool values body e)

-- by whether the field is a map, and whether it is a list
abbrev pub FaultAs : ℕ → Refusal → PoolType → FieldType → Bool → Bool → WireKey → List ℕ → WireError
    → Type 0
FaultAs levels inner pool f true list key bytes e = MapFault levels inner pool f.kind key bytes e
FaultAs levels inner pool f false true key bytes e = ListedFault inner pool f key bytes e
FaultAs levels inner pool f false false key bytes e = OneFault inner pool f key bytes e

abbrev pub FieldFault : ℕ → Refusal → PoolType → FieldType → WireKey → List ℕ → WireError → Type 0
FieldFault levels inner pool f key bytes e =
    FaultAs levels inner pool f (holds_map pool f) (holds_list pool f) key bytes e

abbrev pub RecordFault : ℕ → Refusal → PoolType → Option FieldType → WireKey → List ℕ → WireError
    → Type 0
RecordFault levels inner pool None key bytes e = OtherFault levels key bytes e
RecordFault levels inner pool (Some f) key bytes e = FieldFault levels inner pool f key bytes e

-- behind some records that have the key stands it again, and behind that is the fault
abbrev pub RunFault : ℕ → WireKey → (List ℕ → WireError → Type 0) → List ℕ → WireError → Type 0
RunFault levels key Fault bytes e = (ps : List Payload) × (rest : List ℕ)
    × Fronts (LeadsOn levels key) bytes ps rest × Fault rest e

-- an end of a group where none is open, or of another number than the one that is
abbrev pub IsWrongEnd : Option ℕ → WireKey → Type 0
IsWrongEnd None key = key.wire ≡ EndGroup
IsWrongEnd (Some n) key = IsOtherEnd n key

-- behind some records stands no key where there has to be one, a wrong end, or a key behind which
-- the record is at fault
abbrev pub BodyBy : ℕ → Refusal → Refusal
BodyBy levels inner pool i group bytes e =
    (rs : List (ℕ × Payload)) × (rest : List ℕ)
    × Fronts (SpellsRecords levels) bytes (records_of rs) rest
    × (((group ≡ None → rest ≢ []) × KeyFault rest e)
    ⊎ ((key : WireKey) × (behind : List ℕ) × Fronts IsKey rest key behind
    × ((IsWrongEnd group key × IsEndMismatch e)
    ⊎ ((key.wire ≢ EndGroup) × RecordFault levels inner pool (declared_at pool i key.number)
    key behind e))))

-- below so many levels: at none there is no message
abbrev pub Within : ℕ → Refusal
Within zero pool i group bytes e = IsTooDeep e
Within (suc levels) pool i group bytes e = BodyBy levels (Within levels) pool i group bytes e

-- bytes below which so many levels of messages and groups may lie
abbrev pub BodyFault : ℕ → Refusal
BodyFault levels pool i group bytes e = BodyBy levels (Within levels) pool i group bytes e
