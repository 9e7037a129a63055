use Rattle.std.proofs.Common.{◌≡◌, ℕ, ◌+◌, ◌*◌, ◌≤◌, List, None, length}
use Rattle.std.specs.List.{AllByRecursion}
use Rattle.reflect_wire.specs.Reads.{Fronts}
use Rattle.reflect_wire.specs.Records.{Payload}
use Rattle.reflect_tables.specs.Types.{PoolType, KindType}
use Rattle.reflect_pool.specs.Kinds.{IsKind}
use Rattle.reflect_pool.specs.FieldsLeft.{field_type}
use Rattle.reflect_scalar.specs.FieldTypes.{field_pool}
use Rattle.reflect_message.specs.Contents.{content_in}
use Rattle.reflect_decode.specs.Accepts.{Accepts, AcceptsElement, AcceptsMessage, AcceptsOne}
use Rattle.reflect_decode.specs.Elements.{AppendsAll}
use Rattle.reflect_decode.specs.Keeps.{payloads}
use Rattle.reflect_decode.specs.Levels.{TakenAt, TakesAt, MergesAt}
use Rattle.reflect_decode.specs.Maps.{LeavesSingle, LeavesValue, PutEntries}
use Rattle.reflect_decode.specs.Merging.{IsBody, LeadsOn}
use Rattle.reflect_decode.specs.Suits.{PartSuits, Suits}
use Rattle.reflect_message.specs.KindTypes.{IsScalarType}
use Rattle.reflect_message.specs.Singles.{single}
use Rattle.reflect_decode.proofs.Mapping.{AcceptEntries}
use Rattle.reflect_decode.proofs.decode.+merge.Given as goal

abbrev pub decreases-merge_body : goal.decreases-merge_body
decreases-merge_body l = 10 * length l.bytes.now + 2

abbrev pub decreases-merge_records : goal.decreases-merge_records
decreases-merge_records l = 10 * length l.bytes.now + 1

abbrev pub decreases-merge_record : goal.decreases-merge_record
decreases-merge_record l = 10 * length l.raw.bytes.now + 10

abbrev pub decreases-merge_field : goal.decreases-merge_field
decreases-merge_field l = 10 * length l.raw.bytes.now + 9

abbrev pub decreases-merge_list : goal.decreases-merge_list
decreases-merge_list l = 10 * length l.raw.bytes.now + 8

abbrev pub decreases-merge_message : goal.decreases-merge_message
decreases-merge_message l = 10 * length l.raw.bytes.now + 6

abbrev pub decreases-merge_element : goal.decreases-merge_element
decreases-merge_element l = 10 * length l.raw.bytes.now + 7

abbrev pub decreases-merge_list-records : goal.decreases-merge_list-records
decreases-merge_list-records l = length l.record.bytes.now

abbrev pub invariant-merge_list-records : goal.invariant-merge_list-records
invariant-merge_list-records l =
    (ps : List Payload) × Fronts (LeadsOn l.initial.record.levels l.initial.record.key) l.initial.record.bytes.now ps l.record.bytes.now
    × AppendsAll (TakenAt l.initial.record.levels l.is_group) l.kind l.initial.values.items l.values.items ps × (l.record.key ≡ l.initial.record.key) × (l.record.levels ≡ l.initial.record.levels) × (length l.record.bytes.now ≤ length l.initial.record.bytes.now)
    × AllByRecursion (AcceptsElement (AcceptsMessage l.initial.record.levels) l.is_group l.kind) ps

abbrev pub decreases-merge_map : goal.decreases-merge_map
decreases-merge_map l = 10 * length l.raw.bytes.now + 8

abbrev pub decreases-merge_entries : goal.decreases-merge_entries
decreases-merge_entries l = 10 * length l.raw.bytes.now + 7

abbrev pub decreases-merge_entries-records : goal.decreases-merge_entries-records
decreases-merge_entries-records l = length l.record.bytes.now

abbrev pub invariant-merge_entries-records : goal.invariant-merge_entries-records
invariant-merge_entries-records l =
    (ps : List Payload) × Fronts (LeadsOn l.initial.record.levels l.initial.record.key) l.initial.record.bytes.now ps l.record.bytes.now
    × ((pool : PoolType) (t : KindType) → IsKind pool l.kind t → PutEntries (TakesAt l.initial.record.levels) pool t l.initial.entries.entries l.entries.entries ps)
    × (l.record.key ≡ l.initial.record.key) × (l.record.levels ≡ l.initial.record.levels) × (length l.record.bytes.now ≤ length l.initial.record.bytes.now)
    × AcceptEntries l.initial.record.levels l.kind ps

abbrev pub decreases-entry_of : goal.decreases-entry_of
decreases-entry_of l = 10 * length l.body.now + 5

abbrev pub decreases-merge_records-records : goal.decreases-merge_records-records
decreases-merge_records-records l = length l.rest

abbrev pub invariant-merge_records-records : goal.invariant-merge_records-records
invariant-merge_records-records l =
    (rs : List (ℕ × Payload)) × Fronts (IsBody None l.levels) l.bytes rs l.rest
    × MergesAt l.levels l.descriptor (content_in l.initial.parts) (content_in l.parts) rs × (l.group ≡ l.initial.group) × (length l.rest ≤ length l.initial.rest)
    × (Suits l.levels l.descriptor (content_in l.initial.parts) → Accepts l.levels l.descriptor rs)

abbrev pub decreases-merge_part : goal.decreases-merge_part
decreases-merge_part l = 10 * length l.raw.bytes.now + 7

abbrev pub decreases-entry_of-records : goal.decreases-entry_of-records
decreases-entry_of-records l = length l.rest

abbrev pub invariant-entry_of-records : goal.invariant-entry_of-records
invariant-entry_of-records l =
    (rs : List (ℕ × Payload)) × Fronts (IsBody None l.levels) l.body rs l.rest
    × (IsScalarType (field_type l.keys).kind → LeavesSingle (field_pool l.keys) (field_type l.keys) (single l.held_key) (payloads 1 rs))
    × LeavesValue (TakesAt l.levels) (field_pool l.values) (field_type l.values) l.value (payloads 2 rs) × (length l.rest ≤ length l.initial.rest)
    × PartSuits l.levels (field_pool l.keys) (field_type l.keys) l.held_key × PartSuits l.levels (field_pool l.values) (field_type l.values) l.value
    × AllByRecursion (AcceptsOne (AcceptsMessage l.levels) (field_pool l.keys) (field_type l.keys)) (payloads 1 rs)
    × AllByRecursion (AcceptsOne (AcceptsMessage l.levels) (field_pool l.values) (field_type l.values)) (payloads 2 rs)

abbrev pub decreases-merge_entry : goal.decreases-merge_entry
decreases-merge_entry l = 10 * length l.raw.bytes.now + 8
