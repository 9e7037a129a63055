-- Reading all the records of some bytes.
use Rattle.std.proofs.Common.{◌≡◌, ℕ, List, [], ◌∷◌, ◌++◌, refl, sym, ap, ◌∙◌, subst, append_assoc}
use Rattle.reflect_wire.specs.Reads.{Fronts, NoFront}
use Rattle.reflect_wire.specs.Key.{IsKey}
use Rattle.reflect_wire.specs.Records.{Payload, Records, no_records, more_records, key_of, wire_of, SpellsPayload, SpellsRecords, IsField, IsValue}
use Rattle.reflect_wire.specs.declared.wire_key.WireKey.{WireKey}
use Rattle.reflect_wire.proofs.Unique.{one_key, one_payload}

pub regrouped : (key value rest more : List ℕ) → (key ++ (value ++ rest)) ++ more ≡ key ++ (value ++ (rest ++ more))
regrouped key value rest more = simp append_assoc

key_there : (key more : List ℕ) (k : WireKey) → IsKey key k → key ++ more ≡ [] → ⊥
key_there [] more k h e = h.spelled.spelled
key_there (b ∷ bs) more k h e = cc

-- ---- records behind records

abbrev pub join : Records → Records → Records
join no_records ts = ts
join (more_records n p rs) ts = more_records n p (join rs ts)

pub spells_join : (levels : ℕ) (a b : List ℕ) (rs ts : Records) → SpellsRecords levels a rs → SpellsRecords levels b ts → SpellsRecords levels (a ++ b) (join rs ts)
spells_join levels a b no_records ts h k = subst (λ a. SpellsRecords levels (a ++ b) ts) (sym h) k
spells_join levels a b (more_records n p rs) ts h k = (h.0, h.1, h.2 ++ b, h.3, h.4, spells_join levels h.2 b rs ts h.5 k, ap (λ a. a ++ b) h.6 ∙ regrouped h.0 h.1 h.2 b)

-- behind the records that were read stand the others
pub spells_rest : (levels : ℕ) (a b whole : List ℕ) (rs ts : Records) → SpellsRecords levels a rs → SpellsRecords levels whole ts → a ++ b ≡ whole → (us : Records) × SpellsRecords levels b us × (ts ≡ join rs us)
spells_rest levels a b whole no_records ts h k w = (ts, subst (λ x. SpellsRecords levels x ts) (sym w ∙ ap (λ a. a ++ b) h) k, refl)
spells_rest levels a b whole (more_records m p rs) no_records h k w =
    let none : h.0 ++ (h.1 ++ (h.2 ++ b)) ≡ [] = cc (w, k, h.6, regrouped h.0 h.1 h.2 b) in
    absurd (key_there h.0 (h.1 ++ (h.2 ++ b)) _ h.3 none)
spells_rest levels a b whole (more_records m p rs) (more_records o q ts) h k w =
    let all : h.0 ++ (h.1 ++ (h.2 ++ b)) ≡ k.0 ++ (k.1 ++ k.2) = cc (w, h.6, regrouped h.0 h.1 h.2 b, k.6) in
    let one = one_key h.0 k.0 _ _ _ _ h.3 k.3 all in
    let number : m ≡ o = ap (λ (c : WireKey). c.number) one.1 in
    let value = one_payload levels m h.1 k.1 _ _ p q (ap (λ (c : WireKey). c.wire) one.1) h.4 (subst (λ v. SpellsPayload levels v k.1 q) (sym number) k.4) one.2 in
    let more = spells_rest levels h.2 b k.2 rs ts h.5 k.5 value.2 in
    (more.0, more.1, cc (number, value.1, more.2))

module _ (levels : ℕ) (bytes rest : List ℕ) (done : Records) (found : Fronts (SpellsRecords levels) bytes done rest) (more : rest ≡ [] → ⊥) where
  -- what any reading of the bytes has there: a key, and its value behind it
  next : (rs : Records) → SpellsRecords levels bytes rs
      → (k : WireKey) × (key value behind : List ℕ) × (p : Payload) × IsKey key k × (k.wire ≡ wire_of p) × SpellsPayload levels k.number value p × (rest ≡ key ++ (value ++ behind))
  next rs h = let ts = spells_rest levels found.0 rest bytes done rs found.1 h (sym found.2) in by (ts.0, ts.1) where
    by : (ts : Records) × SpellsRecords levels rest ts
        → (k : WireKey) × (key value behind : List ℕ) × (p : Payload) × IsKey key k × (k.wire ≡ wire_of p) × SpellsPayload levels k.number value p × (rest ≡ key ++ (value ++ behind))
    by (no_records, e) = absurd (more e)
    by (more_records n p ts, t) = (key_of n (wire_of p), t.0, t.1, t.2, p, t.3, refl, t.4, t.6)

  pub no_key_no_records : NoFront IsKey rest → (rs : Records) → SpellsRecords levels bytes rs → ⊥
  no_key_no_records none rs h = let n = next rs h in none n.1 (n.2 ++ n.3) n.0 n.5 n.8

  pub no_value_no_records : (key : WireKey) (behind : List ℕ) → Fronts IsKey rest key behind → NoFront (IsValue levels key) behind → (rs : Records) → SpellsRecords levels bytes rs → ⊥
  no_value_no_records key behind read none rs h =
      let n = next rs h in
      let one = one_key read.0 n.1 behind (n.2 ++ n.3) key n.0 read.1 n.5 (sym read.2 ∙ n.8) in
      none n.2 n.3 n.4 (ap (λ (c : WireKey). c.wire) one.1 ∙ n.6, subst (λ (c : WireKey). SpellsPayload levels c.number n.2 n.4) (sym one.1) n.7) one.2

  pub no_field_no_records : NoFront (IsField levels) rest → (rs : Records) → SpellsRecords levels bytes rs → ⊥
  no_field_no_records none rs h =
      let n = next rs h in
      none (n.1 ++ n.2) n.3 (n.0.number, n.4) (n.1, n.2, subst (IsKey n.1) (ap (key_of n.0.number) n.6) n.5, n.7, refl) (n.8 ∙ sym (append_assoc n.1 n.2 n.3))
