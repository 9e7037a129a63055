-- Whether a type of a pool takes bytes.
use Rattle.std.proofs.Common.{◌≡◌, inl, inr, ℕ, zero, suc, ◌<◌, Bool, true, false, List, Option, None, Some, refl, sym, ap, ◌∙◌, subst}
use Rattle.std.specs.List.{AllByRecursion}
use Rattle.reflect_wire.specs.Records.{Payload, varint, fixed64, delimited, group, fixed32, SpellsRecords}
use Rattle.reflect_wire.specs.Views.{records_of}
use Rattle.reflect_tables.specs.Types.{PoolType, FieldType, KindType}
use Rattle.reflect_tables.specs.Types as types
use Rattle.reflect_pool.specs.Kinds.{IsKind}
use Rattle.reflect_pool.specs.Shapes.{holds_list, holds_map}
use Rattle.reflect_pool.specs.declared.kind.Kind.{Kind}
use Rattle.reflect_pool.specs.declared.message.MessageDescriptor.{MessageDescriptor}
use Rattle.reflect_message.specs.KindTypes.{IsMessageType}
use Rattle.reflect_message.specs.Known.{entry_field}
use Rattle.reflect_decode.specs.Accepts.{Acceptable, AcceptsOne, AcceptsListed, AcceptsEntry, AcceptsAs, AcceptsIf, AcceptsRecord, AcceptsMessage, declared_at}
use Rattle.reflect_decode.specs.Keeps.{payloads}
use Rattle.reflect_decode.specs.Messages.{IsInside}
use Rattle.protobuf_model.specs.Reader.{inside, list_of}
use Rattle.protobuf_model.proofs.Reading.{inside_spelled, listed_back, records_back}
use Rattle.print_view.proofs.Deciding.{Decided, both_or_not, all_four_or_not, as_or_not, less_or_not, all_or_not}
use Rattle.print_view.proofs.DecidingSpelled.{spelled_or_not}
use Rattle.print_view.proofs.DecidingKinds.{kind_or_not, IsOn, on_or_not, kind_on, on_kind}
use Rattle.print_view.proofs.DecidingRows.{IsRowOn, row_on_or_not, rows_of, of_rows}

one_of_some : (x y : FieldType) (o : Option FieldType) → o ≡ Some x → o ≡ Some y → y ≡ x
one_of_some x y o e f = cc

none_of_some : (y : FieldType) (o : Option FieldType) → o ≡ None → o ≡ Some y → ⊥
none_of_some y o e f = cc

-- the records that bytes spell are those that are read of them
read_so : (levels : ℕ) (body : List ℕ) (rs : List (ℕ × Payload)) → SpellsRecords levels body (records_of rs) → rs ≡ inside body
read_so levels body rs h = sym (listed_back rs) ∙ sym (inside_spelled levels body (records_of rs) h)

needed_or_not : (levels : ℕ) (t : KindType) → Decided (IsMessageType t → 0 < levels)
needed_or_not levels (types.message i) = as_or_not (λ lt u. lt) (λ h. h tt) (less_or_not 0 levels)
needed_or_not levels t = inl (λ h. absurd h)

-- where it is decided which payloads messages have, it is of which a field takes
module _ (d : MessageDescriptor) (inner : Acceptable) (each : (g : Bool) (i : ℕ) (p : Payload) → Decided (inner g d.pool.now i p)) where
  abbrev pool : PoolType
  pool = d.pool.now

  one_or_not : (f : FieldType) (p : Payload) → Decided (AcceptsOne inner pool f p)
  one_or_not f p = by (kind_or_not d f.kind) (on_or_not inner f.group pool (each f.group) f.kind p) where
    by : Decided ((kind : Kind) × IsKind pool kind f.kind) → Decided (IsOn inner f.group pool f.kind p) → Decided (AcceptsOne inner pool f p)
    by (inl k) (inl h) = inl (k.0, k.1, on_kind inner f.group pool f.kind k.0 p k.1 h)
    by (inl k) (inr never) = inr (λ h. never (kind_on inner f.group pool f.kind h.0 p h.1 h.2))
    by (inr never) h = inr (λ h. never (h.0, h.1))

  listed_or_not : (f : FieldType) (p : Payload) → Decided (AcceptsListed inner pool f p)
  listed_or_not f p = by (kind_or_not d f.kind) (on_or_not inner f.group pool (each f.group) f.kind p) (row_on_or_not pool f.kind p) where
    neither : (IsOn inner f.group pool f.kind p → ⊥) → (IsRowOn pool f.kind p → ⊥) → AcceptsListed inner pool f p → ⊥
    neither a b (kind, is, inl h) = a (kind_on inner f.group pool f.kind kind p is h)
    neither a b (kind, is, inr h) = b (rows_of pool f.kind kind p is h)

    by : Decided ((kind : Kind) × IsKind pool kind f.kind) → Decided (IsOn inner f.group pool f.kind p) → Decided (IsRowOn pool f.kind p) → Decided (AcceptsListed inner pool f p)
    by (inl k) (inl h) r = inl (k.0, k.1, inl (on_kind inner f.group pool f.kind k.0 p k.1 h))
    by (inl k) (inr a) (inl r) = inl (k.0, k.1, inr (of_rows pool f.kind k.0 p k.1 r))
    by (inl k) (inr a) (inr b) = inr (neither a b)
    by (inr never) h r = inr (λ h. never (h.0, h.1))

  -- an entry, whose fields are known
  abbrev IsEntryOf : ℕ → List ℕ → FieldType → FieldType → List (ℕ × Payload) → Type 0
  IsEntryOf levels body keys values rs =
      SpellsRecords levels body (records_of rs) × (IsMessageType values.kind → 0 < levels)
      × AllByRecursion (AcceptsOne inner pool keys) (payloads 1 rs) × AllByRecursion (AcceptsOne inner pool values) (payloads 2 rs)

  entry_or_not : (levels : ℕ) (t : KindType) (p : Payload) → Decided (AcceptsEntry levels inner pool t p)
  entry_or_not levels t (delimited body) = by (entry_field pool t 1) refl (entry_field pool t 2) refl where
    by : (a : Option FieldType) → entry_field pool t 1 ≡ a → (b : Option FieldType) → entry_field pool t 2 ≡ b → Decided (AcceptsEntry levels inner pool t (delimited body))
    by None e b f = inr (λ h. none_of_some h.0 (entry_field pool t 1) e h.3)
    by (Some keys) e None f = inr (λ h. none_of_some h.1 (entry_field pool t 2) f h.4)
    by (Some keys) e (Some values) f =
        as_or_not (λ (k : IsEntryOf levels body keys values (inside body)). (keys, values, inside body, e, f, k.0, k.1, k.2, k.3))
        (λ h. subst (IsEntryOf levels body keys values) (read_so levels body h.2 h.5)
        (subst (λ v. IsEntryOf levels body keys v h.2) (one_of_some values h.1 (entry_field pool t 2) f h.4)
        (subst (λ k. IsEntryOf levels body k h.1 h.2) (one_of_some keys h.0 (entry_field pool t 1) e h.3) (h.5, h.6, h.7, h.8))))
        (all_four_or_not (spelled_or_not levels body (records_of (inside body))) (needed_or_not levels values.kind)
        (all_or_not (AcceptsOne inner pool keys) (one_or_not keys) (payloads 1 (inside body))) (all_or_not (AcceptsOne inner pool values) (one_or_not values) (payloads 2 (inside body))))
  entry_or_not levels t (varint n) = inr (λ h. h.5)
  entry_or_not levels t (fixed64 n) = inr (λ h. h.5)
  entry_or_not levels t (group rs) = inr (λ h. h.5)
  entry_or_not levels t (fixed32 n) = inr (λ h. h.5)

  as_shaped : (levels : ℕ) (f : FieldType) (map_too listed : Bool) (p : Payload) → Decided (AcceptsAs levels inner pool f map_too listed p)
  as_shaped levels f true listed p = entry_or_not levels f.kind p
  as_shaped levels f false true p = listed_or_not f p
  as_shaped levels f false false p = one_or_not f p

  if_known_or_not : (levels : ℕ) (o : Option FieldType) (p : Payload) → Decided (AcceptsIf levels inner pool o p)
  if_known_or_not levels None p = inl tt
  if_known_or_not levels (Some f) p = as_shaped levels f (holds_map pool f) (holds_list pool f) p

  record_or_not : (levels i : ℕ) (r : ℕ × Payload) → Decided (AcceptsRecord levels inner pool i r)
  record_or_not levels i r = if_known_or_not levels (declared_at pool i r.0) r.1

-- a message, by the records inside its payload
message_by : (levels : ℕ) (All : List (ℕ × Payload) → Type 0) → ((rs : List (ℕ × Payload)) → Decided (All rs)) → (g : Bool) (p : Payload) → Decided ((rs : List (ℕ × Payload)) × IsInside g levels p rs × All rs)
message_by levels All each false (delimited body) =
    as_or_not (λ (h : SpellsRecords levels body (records_of (inside body)) × All (inside body)). (inside body, h.0, h.1))
    (λ h. let same = read_so levels body h.0 h.1 in (subst (λ rs. SpellsRecords levels body (records_of rs)) same h.1, subst All same h.2))
    (both_or_not (spelled_or_not levels body (records_of (inside body))) (each (inside body)))
message_by levels All each true (group rs) =
    as_or_not (λ (h : All (list_of rs)). (list_of rs, sym (records_back rs), h))
    (λ h. subst All (sym (listed_back h.0) ∙ sym (ap list_of h.1)) h.2)
    (each (list_of rs))
message_by levels All each g p = inr (λ h. h.1)

message_or_not : (d : MessageDescriptor) (levels : ℕ) (g : Bool) (i : ℕ) (p : Payload) → Decided (AcceptsMessage levels g d.pool.now i p)
message_or_not d zero g i p = inr (λ h. h)
message_or_not d (suc levels) g i p =
    message_by levels (λ rs. AllByRecursion (AcceptsRecord levels (AcceptsMessage levels) d.pool.now i) rs)
    (all_or_not (AcceptsRecord levels (AcceptsMessage levels) d.pool.now i) (record_or_not d (AcceptsMessage levels) (message_or_not d levels) levels i)) g p

-- the bytes spell records that the type at a place takes
abbrev pub AreTaken : PoolType → ℕ → List ℕ → Type 0
AreTaken pool i bytes = (rs : List (ℕ × Payload)) × SpellsRecords 100 bytes (records_of rs) × AllByRecursion (AcceptsRecord 100 (AcceptsMessage 100) pool i) rs

pub taken_or_not : (d : MessageDescriptor) (i : ℕ) (bytes : List ℕ) → Decided (AreTaken d.pool.now i bytes)
taken_or_not d i bytes =
    as_or_not (λ h. (inside bytes, h.0, h.1))
    (λ h. let same = read_so 100 bytes h.0 h.1 in (subst (λ rs. SpellsRecords 100 bytes (records_of rs)) same h.1, subst (AllByRecursion (AcceptsRecord 100 (AcceptsMessage 100) d.pool.now i)) same h.2))
    (both_or_not (spelled_or_not 100 bytes (records_of (inside bytes)))
    (all_or_not (AcceptsRecord 100 (AcceptsMessage 100) d.pool.now i) (record_or_not d (AcceptsMessage 100) (message_or_not d 100) 100 i) (inside bytes)))
