-- What is so of messages with some levels below is so with more.
use Rattle.std.proofs.Common.{◌≤◌, ◌-◌, ℕ, zero, suc, arith}
use Rattle.reflect_wire.specs.Records.{Payload, Records, delimited, fixed32, fixed64, group, more_records, no_records, varint}
use Rattle.reflect_wire.specs.Written.{FitsPayload, FitsRecords}
use Rattle.protobuf_model.proofs.Lists.{all_map}
use Rattle.protobuf_model.specs.Meaning.{payloads}
use Rattle.reflect_tables.specs.Types.{PoolType}
use Rattle.reflect_scalar.specs.declared.map_key.MapKey.{MapKey}
use Rattle.reflect_message.specs.Held.{unknown_of}
use Rattle.reflect_message.specs.Names.{DynamicMessage, Value}
use Rattle.valid_view.specs.Inside.{EachMessage, IfMessage}
use Rattle.valid_view.specs.Tidy.{OfHeld, Solid, Tidy}

mutual
  pub payload_deeper : (levels deeper : ℕ) → levels ≤ deeper → (p : Payload) → FitsPayload levels p → FitsPayload deeper p
  payload_deeper levels deeper le (varint v) h = h
  payload_deeper levels deeper le (fixed64 v) h = h
  payload_deeper levels deeper le (delimited p) h = h
  payload_deeper levels deeper le (group rs) h = let some = h.0 in (omega (arith, some, le), records_deeper (levels - 1) (deeper - 1) (omega (arith, le)) rs h.1)
  payload_deeper levels deeper le (fixed32 v) h = h

  records_deeper : (levels deeper : ℕ) → levels ≤ deeper → (rs : Records) → FitsRecords levels rs → FitsRecords deeper rs
  records_deeper levels deeper le no_records h = tt
  records_deeper levels deeper le (more_records n p rs) h = (h.0, h.1, payload_deeper levels deeper le p h.2, records_deeper levels deeper le rs h.3)

-- what holds of messages that others do
module _ (P Q : DynamicMessage → Type 0) (weaker : (m : DynamicMessage) → P m → Q m) where
  one_weaker : (v : Value) → IfMessage P v → IfMessage Q v
  one_weaker v p m at = weaker m (p m at)

  pub each_weaker : (v : Value) → EachMessage P v → EachMessage Q v
  each_weaker v p = record {
    itself = one_weaker v p.itself;
    items = λ vs at. all_map (IfMessage P) (IfMessage Q) vs one_weaker (p.items vs at);
    entries = λ es at. all_map (λ (e : MapKey × Value). IfMessage P e.1) (λ (e : MapKey × Value). IfMessage Q e.1) es (λ e. one_weaker e.1) (p.entries es at);
  }

  held_weaker : (m : DynamicMessage) → OfHeld (EachMessage P) m → OfHeld (EachMessage Q) m
  held_weaker m p = record {
    fields = λ n v at. each_weaker v (p.fields n v at);
    extensions = λ n v at. each_weaker v (p.extensions n v at);
  }

pub tidy_deeper : (pool : PoolType) (levels deeper : ℕ) → levels ≤ deeper → (m : DynamicMessage) → Tidy pool levels m → Tidy pool deeper m
tidy_deeper pool zero deeper le m h = absurd h
tidy_deeper pool (suc levels) zero le m h = absurd (omega (arith, le))
tidy_deeper pool (suc levels) (suc deeper) le m h = (h.0, held_weaker (Tidy pool levels) (Tidy pool deeper) (tidy_deeper pool levels deeper (omega (arith, le))) m h.1)

pub solid_deeper : (levels deeper : ℕ) → levels ≤ deeper → (m : DynamicMessage) → Solid levels m → Solid deeper m
solid_deeper zero deeper le m h = absurd h
solid_deeper (suc levels) zero le m h = absurd (omega (arith, le))
solid_deeper (suc levels) (suc deeper) le m h = (
  record {
    values = h.0.values;
    records = λ n. all_map (FitsPayload levels) (FitsPayload deeper) (payloads n (unknown_of m)) (payload_deeper levels deeper (omega (arith, le))) (h.0.records n);
  },
  held_weaker (Solid levels) (Solid deeper) (solid_deeper levels deeper (omega (arith, le))) m h.1,
)
