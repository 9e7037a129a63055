-- Runs of records with one key, and the records of a message.
use Rattle.std.proofs.Common.{◌≡◌, ℕ, ◌+◌, ◌-◌, List, [], ◌∷◌, ◌++◌, None, Some, refl, sym, ap, ◌∙◌, subst, append_assoc, append-nil, arith}
use Rattle.reflect_wire.specs.Key.{IsKey, IsDelimited}
use Rattle.reflect_wire.specs.Reads.{Fronts}
use Rattle.reflect_wire.specs.Records.{Payload, varint, fixed64, delimited, group, fixed32, key_of, SpellsPayload, SpellsRecords, IsValue, IsGroup}
use Rattle.reflect_wire.specs.Views.{records_of}
use Rattle.reflect_wire.specs.declared.wire_key.WireKey.{WireKey}
use Rattle.reflect_wire.specs.declared.wire_key.WireType.TheVariants.{LengthDelimited, StartGroup, EndGroup}
use Rattle.reflect_wire.proofs.Groups.{whole_group}
use Rattle.reflect_pool.specs.declared.kind.Kind.{Kind}
use Rattle.reflect_scalar.specs.Meaning.{IsScalar}
use Rattle.reflect_scalar.specs.Singles.{Single}
use Rattle.reflect_decode.specs.Merging.{IsBody, LeadsOn, IsRun, run_records}

pub plain_spelled : (levels n : ℕ) (bytes : List ℕ) (p : Payload) → SpellsPayload 0 0 bytes p → SpellsPayload levels n bytes p
plain_spelled levels n bytes (varint v) h = h
plain_spelled levels n bytes (fixed64 v) h = h
plain_spelled levels n bytes (delimited v) h = h
plain_spelled levels n bytes (group rs) h = absurd (omega (arith, h.0))
plain_spelled levels n bytes (fixed32 v) h = h

module _ (levels : ℕ) (key : WireKey) where
  -- one value
  pub scalar_value : (kind : Kind) (bytes rest : List ℕ) (v : Single) → Fronts (IsScalar kind key.wire) bytes v rest → (p : Payload) × Fronts (IsValue levels key) bytes p rest
  scalar_value kind bytes rest v h = (h.1.0, (h.0, (h.1.1.0, plain_spelled levels key.number h.0 h.1.0 h.1.1.1), h.2))

  pub delimited_value : (bytes rest body : List ℕ) → key.wire ≡ LengthDelimited → Fronts IsDelimited bytes body rest → Fronts (IsValue levels key) bytes (delimited body) rest
  delimited_value bytes rest body wire h = (h.0, (wire, h.1), h.2)

  pub group_value : (below : ℕ) (bytes rest : List ℕ) (rs : List (ℕ × Payload)) → key.wire ≡ StartGroup → below + 1 ≡ levels → Fronts (IsBody (Some key.number) below) bytes rs rest → Fronts (IsValue levels key) bytes (group (records_of rs)) rest
  group_value below bytes rest rs wire e h =
      let same : below ≡ levels - 1 = omega (arith, e) in
      (h.0, (wire, (omega (arith, e), subst (λ l. IsGroup l key.number h.0 (records_of rs)) same h.1)), h.2)

  pub same_value : (levels' : ℕ) (key' : WireKey) (bytes rest : List ℕ) (p : Payload) → levels' ≡ levels → key' ≡ key → Fronts (IsValue levels' key') bytes p rest → Fronts (IsValue levels key) bytes p rest
  same_value levels' key' bytes rest p l k h = subst (λ k. Fronts (IsValue levels k) bytes p rest) k (subst (λ l. Fronts (IsValue l key') bytes p rest) l h)

  lead_push : (lead value again : List ℕ) (ps : List Payload) (p : Payload) → LeadsOn levels key lead ps → IsValue levels key value p → IsKey again key → LeadsOn levels key (lead ++ (value ++ again)) (ps ++ p ∷ [])
  lead_push lead value again [] p h v k = (value, again, [], v, k, refl, ap (λ l. l ++ (value ++ again)) h ∙ ap (λ l. value ++ l) (sym (append-nil again)))
  lead_push lead value again (q ∷ ps) p h v k =
      (h.0, h.1, h.2 ++ (value ++ again), h.3, h.4, lead_push h.2 value again ps p h.5 v k, ap (λ l. l ++ (value ++ again)) h.6 ∙ simp append_assoc)

  pub run_more : (bytes here rest behind : List ℕ) (ps : List Payload) (p : Payload) → Fronts (LeadsOn levels key) bytes ps here → Fronts (IsValue levels key) here p rest → Fronts IsKey rest key behind → Fronts (LeadsOn levels key) bytes (ps ++ p ∷ []) behind
  run_more bytes here rest behind ps p h v k =
      (h.0 ++ (v.0 ++ k.0), lead_push h.0 v.0 k.0 ps p h.1 v.1 k.1, h.2 ∙ ap (λ l. h.0 ++ l) (v.2 ∙ ap (λ l. v.0 ++ l) k.2) ∙ simp append_assoc)

  pub run_ends : (bytes here rest : List ℕ) (ps : List Payload) (p : Payload) → Fronts (LeadsOn levels key) bytes ps here → Fronts (IsValue levels key) here p rest → Fronts (IsRun levels key) bytes (ps, p) rest
  run_ends bytes here rest ps p h v = (h.0 ++ v.0, (h.0, v.0, h.1, v.1, refl), h.2 ∙ ap (λ l. h.0 ++ l) v.2 ∙ sym (append_assoc h.0 v.0 rest))

  pub run_done : (bytes here rest : List ℕ) (ps : List Payload) → Fronts (LeadsOn levels key) bytes ps here → (p : Payload) × Fronts (IsValue levels key) here p rest → (run : List Payload × Payload) × Fronts (IsRun levels key) bytes run rest
  run_done bytes here rest ps h (p, v) = ((ps, p), run_ends bytes here rest ps p h v)

  -- a run behind its key is records
  run_spelled : (front lead value : List ℕ) (ps : List Payload) (p : Payload) → IsKey front key → LeadsOn levels key lead ps → IsValue levels key value p → SpellsRecords levels (front ++ (lead ++ value)) (records_of (run_records key.number (ps, p)))
  run_spelled front lead value [] p k h v =
      (front, value, [], subst (IsKey front) (ap (key_of key.number) v.0) k, v.1, refl, ap (λ l. front ++ (l ++ value)) h ∙ ap (λ l. front ++ l) (sym (append-nil value)))
  run_spelled front lead value (q ∷ ps) p k h v =
      (front, h.0, h.1 ++ (h.2 ++ value), subst (IsKey front) (ap (key_of key.number) h.3.0) k, h.3.1, run_spelled h.1 h.2 value ps p h.4 h.5 v, ap (λ l. front ++ (l ++ value)) h.6 ∙ simp append_assoc)

pub spells_two : (levels : ℕ) (a b : List ℕ) (rs ts : List (ℕ × Payload)) → SpellsRecords levels a (records_of rs) → SpellsRecords levels b (records_of ts) → SpellsRecords levels (a ++ b) (records_of (rs ++ ts))
spells_two levels a b [] ts h k = subst (λ l. SpellsRecords levels l (records_of ts)) (sym (ap (λ l. l ++ b) h)) k
spells_two levels a b (r ∷ rs) ts h k = (h.0, h.1, h.2 ++ b, h.3, h.4, spells_two levels h.2 b rs ts h.5 k, ap (λ l. l ++ b) h.6 ∙ simp append_assoc)

module _ (levels : ℕ) (bytes rest : List ℕ) (done : List (ℕ × Payload)) (found : Fronts (IsBody None levels) bytes done rest) where
  pub run_behind : (key : WireKey) (behind more : List ℕ) (run : List Payload × Payload) → Fronts IsKey rest key behind → Fronts (IsRun levels key) behind run more → Fronts (IsBody None levels) bytes (done ++ run_records key.number run) more
  run_behind key behind more run k v =
      let spelled = run_spelled levels key k.0 v.1.0 v.1.1 run.0 run.1 k.1 v.1.2 v.1.3 in (
        found.0 ++ (k.0 ++ (v.1.0 ++ v.1.1)),
        spells_two levels found.0 (k.0 ++ (v.1.0 ++ v.1.1)) done (run_records key.number run) found.1 spelled,
        found.2 ∙ ap (λ l. found.0 ++ l) (k.2 ∙ ap (λ l. k.0 ++ l) (v.2 ∙ ap (λ l. l ++ more) v.1.4)) ∙ simp append_assoc,
      )

  pub group_ends : (n : ℕ) (key : WireKey) (behind : List ℕ) → Fronts IsKey rest key behind → key.wire ≡ EndGroup → key.number ≡ n → Fronts (IsBody (Some n) levels) bytes done behind
  group_ends n key behind k wire number = whole_group levels n bytes rest (records_of done) found key behind k wire number

pub whole_body : (levels : ℕ) (bytes rest : List ℕ) (rs : List (ℕ × Payload)) → Fronts (IsBody None levels) bytes rs rest → rest ≡ [] → SpellsRecords levels bytes (records_of rs)
whole_body levels bytes rest rs h e = subst (λ l. SpellsRecords levels l (records_of rs)) (sym (h.2 ∙ ap (λ l. h.0 ++ l) e ∙ append-nil h.0)) h.1
