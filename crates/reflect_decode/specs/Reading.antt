-- What each step of reading promises: which records the bytes spell there, what these leave,
-- and why there are none.
use Rattle.std.specs.Prelude.{◌≡◌, ℕ, Bool, List, [], ◌∷◌, ◌++◌, Option, Some, Result, IfOk, IfErr, ◌<◌}
use Rattle.std.specs.Borrow.{Bor}
use Rattle.std.specs.List.{AllByRecursion}
use Rattle.std.specs.Option.{IsSome}
use Rattle.reflect_tables.specs.Types.{PoolType, FieldType, KindType}
use Rattle.reflect_pool.specs.Kinds.{IsKind}
use Rattle.reflect_pool.specs.declared.kind.Kind.{Kind}
use Rattle.reflect_pool.specs.declared.message.MessageDescriptor.{MessageDescriptor}
use Rattle.reflect_wire.specs.Faults.{TellsTrue}
use Rattle.reflect_wire.specs.Reads.{Fronts}
use Rattle.reflect_wire.specs.Records.{Payload, IsValue, SpellsRecords}
use Rattle.reflect_wire.specs.Views.{records_of}
use Rattle.reflect_wire.specs.declared.wire_error.WireError.{WireError}
use Rattle.reflect_wire.specs.declared.wire_key.WireKey.{WireKey}
use Rattle.reflect_entries.specs.Sets.{with_record}
use Rattle.reflect_scalar.specs.declared.map_key.MapKey.{MapKey}
use Rattle.reflect_message.specs.Contents.{Content}
use Rattle.reflect_message.specs.KindTypes.{IsMessageType}
use Rattle.reflect_message.specs.Lists.{list_items}
use Rattle.reflect_message.specs.Names.{Value}
use Rattle.reflect_decode.specs.Accepts.{Accepts, AcceptsElement, AcceptsEntry, AcceptsField, AcceptsMessage, AcceptsOne, declared_at}
use Rattle.reflect_decode.specs.Elements.{Appends, ContinuesList}
use Rattle.reflect_decode.specs.Keeps.{payloads}
use Rattle.reflect_decode.specs.Levels.{TakenAt, TakesAt, MergesAt}
use Rattle.reflect_decode.specs.Maps.{ChangesPart, ContinuesMap, LeavesKey, LeavesValue, PutEntries}
use Rattle.reflect_decode.specs.Merging.{IsBody, IsRun, run_records}
use Rattle.reflect_decode.specs.Refused.{BodyFault, ElementFault, FieldFault, MapFault, MessageFault, OneFault, PartFault, RecordFault, RunFault, Within}
use Rattle.reflect_decode.specs.Suits.{HeldSuits, PartSuits, Suits, SuitsBelow}
use Rattle.reflect_decode.specs.Taking.{Leaves}

-- what is behind the bytes that were read, or a refusal
abbrev pub Outcome : Type 0
Outcome = Result (Bor (List ℕ)) WireError

-- the records of a message, or of a group up to its end
abbrev pub ReadsBody : ℕ → Option ℕ → MessageDescriptor → Content → Content → List ℕ → Outcome
    → Type 0
ReadsBody levels group m old new bytes r =
    IfOk r (λ rest. (rs : List (ℕ × Payload)) × Fronts (IsBody group levels) bytes rs rest.now
    × MergesAt levels m old new rs × (Suits levels m old → Accepts levels m rs))

abbrev pub TellsBody : ℕ → Option ℕ → MessageDescriptor → Content → List ℕ → Outcome → Type 0
TellsBody levels group m old bytes r =
    Suits levels m old → IfErr r (TellsTrue (BodyFault levels m.pool.now m.index group) bytes)

-- a record whose key was read, with those behind that have the same key
abbrev pub ReadsRecord : ℕ → WireKey → MessageDescriptor → Content → Content → List ℕ → Outcome
    → Type 0
ReadsRecord levels key m old new bytes r =
    IfOk r (λ rest. (run : List Payload × Payload) × Fronts (IsRun levels key) bytes run rest.now
    × MergesAt levels m old new (run_records key.number run)
    × (Suits levels m old → Accepts levels m (run_records key.number run)))

abbrev pub TellsRecord : ℕ → WireKey → MessageDescriptor → Content → List ℕ → Outcome → Type 0
TellsRecord levels key m old bytes r =
    Suits levels m old
    → IfErr r (TellsTrue (RunFault levels key (RecordFault levels (Within levels) m.pool.now
    (declared_at m.pool.now m.index key.number) key)) bytes)

-- such records of a field
abbrev pub ReadsField : ℕ → WireKey → PoolType → FieldType → Option Value → Option Value → List ℕ
    → Outcome → Type 0
ReadsField levels key pool f old new bytes r =
    IfOk r (λ rest. (run : List Payload × Payload) × Fronts (IsRun levels key) bytes run rest.now
    × Leaves (TakesAt levels) pool f old new (run.0 ++ run.1 ∷ [])
    × (HeldSuits (SuitsBelow levels) pool f old
    → AllByRecursion (AcceptsField levels (AcceptsMessage levels) pool f) (run.0 ++ run.1 ∷ [])))

abbrev pub TellsField : ℕ → WireKey → PoolType → FieldType → Option Value → List ℕ → Outcome
    → Type 0
TellsField levels key pool f old bytes r =
    HeldSuits (SuitsBelow levels) pool f old
    → IfErr r (TellsTrue (RunFault levels key (FieldFault levels (Within levels) pool f key)) bytes)

-- a record of an undeclared number, which is put behind those of its number
abbrev pub KeepsRecord : ℕ → WireKey → List (ℕ × Payload) → List (ℕ × Payload) → List ℕ → Outcome
    → Type 0
KeepsRecord levels key old new bytes r =
    IfOk r (λ rest. (p : Payload) × Fronts (IsValue levels key) bytes p rest.now
    × (new ≡ with_record old (key.number, p)))

-- a message that stands under a key
abbrev pub ReadsMessage : ℕ → WireKey → Bool → MessageDescriptor → Content → Content → List ℕ
    → Outcome → Type 0
ReadsMessage levels key grouped m old new bytes r =
    IfOk r (λ rest. (p : Payload) × Fronts (IsValue levels key) bytes p rest.now
    × TakenAt levels grouped m old new (p ∷ [])
    × (SuitsBelow levels m old → AcceptsMessage levels grouped m.pool.now m.index p))

abbrev pub TellsMessage : ℕ → WireKey → Bool → MessageDescriptor → Content → List ℕ → Outcome
    → Type 0
TellsMessage levels key grouped m old bytes r =
    SuitsBelow levels m old
    → IfErr r (TellsTrue (MessageFault (Within levels) grouped m.pool.now m.index key) bytes)

-- elements of a list, with those behind that have the same key
abbrev pub ReadsList : ℕ → WireKey → Bool → Kind → Value → Value → List ℕ → Outcome → Type 0
ReadsList levels key grouped kind old new bytes r =
    IfOk r (λ rest. (run : List Payload × Payload) × Fronts (IsRun levels key) bytes run rest.now
    × ContinuesList (TakenAt levels grouped) kind (Some old) (Some new) (run.0 ++ run.1 ∷ [])
    × AllByRecursion (AcceptsElement (AcceptsMessage levels) grouped kind) (run.0 ++ run.1 ∷ []))

abbrev pub TellsList : ℕ → WireKey → Bool → Kind → Value → List ℕ → Outcome → Type 0
TellsList levels key grouped kind old bytes r =
    IsSome (list_items old)
    → IfErr r
    (TellsTrue (RunFault levels key (ElementFault (Within levels) grouped kind key)) bytes)

-- one element, or a packed record
abbrev pub ReadsElement : ℕ → WireKey → Bool → Kind → List Value → List Value → List ℕ → Outcome
    → Type 0
ReadsElement levels key grouped kind old new bytes r =
    IfOk r (λ rest. (p : Payload) × Fronts (IsValue levels key) bytes p rest.now
    × Appends (TakenAt levels grouped) kind old new p
    × AcceptsElement (AcceptsMessage levels) grouped kind p)

abbrev pub TellsElement : ℕ → WireKey → Bool → Kind → List ℕ → Outcome → Type 0
TellsElement levels key grouped kind bytes r =
    IfErr r (TellsTrue (ElementFault (Within levels) grouped kind key) bytes)

-- entries of a map, with those behind that have the same key; the pool and the type are those
-- of the public kind
abbrev pub AcceptsEntries : ℕ → Kind → List Payload → Type 0
AcceptsEntries levels kind ps =
    (pool : PoolType) (t : KindType) → IsKind pool kind t
    → AllByRecursion (AcceptsEntry levels (AcceptsMessage levels) pool t) ps

abbrev pub ReadsMap : ℕ → WireKey → Kind → Value → Value → List ℕ → Outcome → Type 0
ReadsMap levels key kind old new bytes r =
    IfOk r (λ rest. (run : List Payload × Payload) × Fronts (IsRun levels key) bytes run rest.now
    × ((pool : PoolType) (t : KindType) → IsKind pool kind t
    → ContinuesMap (TakesAt levels) pool t (Some old) (Some new) (run.0 ++ run.1 ∷ []))
    × AcceptsEntries levels kind (run.0 ++ run.1 ∷ []))

abbrev pub ReadsEntries : ℕ → WireKey → Kind → List (MapKey × Value) → List (MapKey × Value)
    → List ℕ → Outcome → Type 0
ReadsEntries levels key kind old new bytes r =
    IfOk r (λ rest. (run : List Payload × Payload) × Fronts (IsRun levels key) bytes run rest.now
    × ((pool : PoolType) (t : KindType) → IsKind pool kind t
    → PutEntries (TakesAt levels) pool t old new (run.0 ++ run.1 ∷ []))
    × AcceptsEntries levels kind (run.0 ++ run.1 ∷ []))

abbrev pub TellsEntries : ℕ → WireKey → Kind → List ℕ → Outcome → Type 0
TellsEntries levels key kind bytes r =
    (pool : PoolType) (t : KindType) → IsKind pool kind t
    → IfErr r (TellsTrue (RunFault levels key (MapFault levels (Within levels) pool t key)) bytes)

-- the records of one entry
abbrev pub ReadsEntry : ℕ → PoolType → FieldType → PoolType → FieldType → List ℕ
    → Result (MapKey × Value) WireError → Type 0
ReadsEntry levels p keys q values body r =
    IfOk r (λ e. (rs : List (ℕ × Payload)) × SpellsRecords levels body (records_of rs)
    × LeavesKey p keys e.0 (payloads 1 rs)
    × LeavesValue (TakesAt levels) q values e.1 (payloads 2 rs)
    × (IsMessageType values.kind → 0 < levels)
    × AllByRecursion (AcceptsOne (AcceptsMessage levels) p keys) (payloads 1 rs)
    × AllByRecursion (AcceptsOne (AcceptsMessage levels) q values) (payloads 2 rs))

-- one of these: of the key, of the value, or another
abbrev pub ReadsEntryRecord : ℕ → WireKey → PoolType → FieldType → PoolType → FieldType
    → Value × Value → Value × Value → List ℕ → Outcome → Type 0
ReadsEntryRecord levels key p keys q values old new bytes r =
    IfOk r (λ rest. (one : Payload) × Fronts (IsValue levels key) bytes one rest.now
    × ChangesPart (TakesAt levels) p keys old.0 new.0 (payloads 1 ((key.number, one) ∷ []))
    × ChangesPart (TakesAt levels) q values old.1 new.1 (payloads 2 ((key.number, one) ∷ []))
    × (PartSuits levels p keys old.0
    → AllByRecursion (AcceptsOne (AcceptsMessage levels) p keys)
    (payloads 1 ((key.number, one) ∷ [])))
    × (PartSuits levels q values old.1
    → AllByRecursion (AcceptsOne (AcceptsMessage levels) q values)
    (payloads 2 ((key.number, one) ∷ []))))

abbrev pub TellsEntryRecord : ℕ → WireKey → PoolType → FieldType → PoolType → FieldType
    → Value × Value → List ℕ → Outcome → Type 0
TellsEntryRecord levels key p keys q values old bytes r =
    PartSuits levels p keys old.0 → PartSuits levels q values old.1
    → IfErr r (TellsTrue (PartFault levels (Within levels) p keys q values key) bytes)

-- one of the key or the value
abbrev pub ReadsPart : ℕ → WireKey → PoolType → FieldType → Value → Value → List ℕ → Outcome
    → Type 0
ReadsPart levels key pool f old new bytes r =
    IfOk r (λ rest. (p : Payload) × Fronts (IsValue levels key) bytes p rest.now
    × ChangesPart (TakesAt levels) pool f old new (p ∷ [])
    × (PartSuits levels pool f old → AcceptsOne (AcceptsMessage levels) pool f p))

abbrev pub TellsPart : ℕ → WireKey → PoolType → FieldType → Value → List ℕ → Outcome → Type 0
TellsPart levels key pool f old bytes r =
    PartSuits levels pool f old → IfErr r (TellsTrue (OneFault (Within levels) pool f key) bytes)
