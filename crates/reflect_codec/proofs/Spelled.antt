-- One record, or one number, more behind those that were read.
use Rattle.std.proofs.Common.{◌≡◌, inl, inr, ℕ, ℤ, List, [], ◌∷◌, ◌++◌, refl, sym, ap, ◌∙◌, subst, append-nil, append_assoc}
use Rattle.reflect_wire.specs.Faults.{VarintFault, KeyFault, ValueFault, TellsTrue}
use Rattle.reflect_wire.specs.Key.{IsKey}
use Rattle.reflect_wire.specs.Reads.{Fronts, NoFront, RefusesFront}
use Rattle.reflect_wire.specs.Records.{Payload, Records, no_records, more_records, key_of, wire_of, SpellsPayload, SpellsRecords, IsValue}
use Rattle.reflect_wire.specs.Varint.{IsVarint}
use Rattle.reflect_wire.specs.declared.wire_error.WireError.{WireError}
use Rattle.reflect_wire.specs.declared.wire_key.WireKey.{WireKey}
use Rattle.reflect_wire.proofs.Faulty.{tells_fault}
use Rattle.reflect_wire.proofs.Varints.{one_form}
use Rattle.reflect_wire.proofs.Whole.{no_key_no_records, no_value_no_records}
use Rattle.reflect_codec.specs.Faults.{BytesFault, PackedFault}
use Rattle.reflect_codec.specs.Raw.{IsRawValue}
use Rattle.reflect_codec.specs.Reading.{Field, value_of, fields_in, int32_of, SpellsFields, SpellsNumbers, Rejects}
use Rattle.reflect_codec.proofs.Values.{refused}

-- the records with one more behind them
abbrev pushed : Records → ℕ → Payload → Records
pushed no_records n p = more_records n p no_records
pushed (more_records m q rs) n p = more_records m q (pushed rs n p)

fields_in-pushed : (rs : Records) (n : ℕ) (p : Payload) → fields_in (pushed rs n p) ≡ fields_in rs ++ (n, value_of p) ∷ []
fields_in-pushed no_records n p = refl
fields_in-pushed (more_records m q rs) n p = ap (λ (fs : List Field). (m, value_of q) ∷ fs) (fields_in-pushed rs n p)

spells_pushed : (levels n : ℕ) (front key value : List ℕ) (rs : Records) (p : Payload) → SpellsRecords levels front rs → IsKey key (key_of n (wire_of p)) → SpellsPayload levels n value p
    → SpellsRecords levels (front ++ (key ++ value)) (pushed rs n p)
spells_pushed levels n front key value no_records p h k v = (key, value, [], k, v, refl, ap (λ f. f ++ (key ++ value)) h ∙ ap (λ v. key ++ v) (sym (append-nil value)))
spells_pushed levels n front key value (more_records m q rs) p h k v =
    (h.0, h.1, h.2 ++ (key ++ value), h.3, h.4, spells_pushed levels n h.2 key value rs p h.5 k v, ap (λ f. f ++ (key ++ value)) h.6 ∙ simp append_assoc)

-- one field more was read
pub one_more : (levels : ℕ) (bytes rest behind more : List ℕ) (done : Records) (key : WireKey) (value : List ℕ) (p : Payload) → Fronts (SpellsRecords levels) bytes done rest → Fronts IsKey rest key behind
    → IsValue levels key value p → behind ≡ value ++ more → (rs : Records) × Fronts (SpellsRecords levels) bytes rs more × (fields_in rs ≡ fields_in done ++ (key.number, value_of p) ∷ [])
one_more levels bytes rest behind more done key value p found read h e =
    let same : key ≡ key_of key.number (wire_of p) = ap (key_of key.number) h.0 in (
      pushed done key.number p,
      (
        found.0 ++ (read.0 ++ value),
        spells_pushed levels key.number found.0 read.0 value done p found.1 (subst (IsKey read.0) same read.1) h.1,
        found.2 ∙ ap (λ r. found.0 ++ r) (read.2 ∙ ap (λ b. read.0 ++ b) e) ∙ simp append_assoc,
      ),
      fields_in-pushed done key.number p,
    )

no_varint : (n : ℕ) → IsVarint [] n → ⊥
no_varint n h = h.spelled

-- numbers with one more behind them
numbers_pushed : (front value : List ℕ) (n : ℕ) (zs : List ℤ) → SpellsNumbers front zs → IsVarint value n → SpellsNumbers (front ++ value) (zs ++ int32_of n ∷ [])
numbers_pushed front value n [] s v = (value, [], n, v, refl, refl, ap (λ f. f ++ value) s ∙ sym (append-nil value))
numbers_pushed front value n (z ∷ zs) s v = (s.0, s.1 ++ value, s.2, s.3, s.4, numbers_pushed s.1 value n zs s.5 v, ap (λ f. f ++ value) s.6 ∙ append_assoc s.0 s.1 value)

-- one number more was read
pub number_more : (bytes left front rest : List ℕ) (n : ℕ) (zs : List ℤ) → Fronts SpellsNumbers bytes zs left → IsVarint front n → left ≡ front ++ rest → Fronts SpellsNumbers bytes (zs ++ int32_of n ∷ []) rest
number_more bytes left front rest n zs found v e =
    (found.0 ++ front, numbers_pushed found.0 front n zs found.1 v, found.2 ∙ ap (λ more. found.0 ++ more) e ∙ sym (append_assoc found.0 front rest))

module _ (left front rest : List ℕ) (n : ℕ) (h : IsVarint front n) (e : left ≡ front ++ rest) where
  -- any numbers that are read here have this one in front
  pub numbers_behind : (zs : List ℤ) → SpellsNumbers left zs → (ys : List ℤ) × SpellsNumbers rest ys
  numbers_behind [] s = absurd (by front h (sym e ∙ s)) where
    by : (f : List ℕ) → IsVarint f n → f ++ rest ≡ [] → ⊥
    by [] v w = no_varint n v
    by (b ∷ bs) v w = cc
  numbers_behind (z ∷ zs) s =
      let one = one_form front s.0 rest s.1 _ _ h.spelled s.3.spelled (sym e ∙ s.6) in
      (zs, subst (λ r. SpellsNumbers r zs) (sym one.2) s.5)

-- where nothing is a number, nothing is a list of numbers but at the end
no_numbers : (left : List ℕ) → (left ≡ [] → ⊥) → NoFront IsVarint left → (zs : List ℤ) → SpellsNumbers left zs → ⊥
no_numbers left more none [] s = more s
no_numbers left more none (z ∷ zs) s = none s.0 s.1 s.2 s.3 s.6

-- behind some numbers stands no further one
module _ (bytes left : List ℕ) (done : List ℤ) (found : Fronts SpellsNumbers bytes done left) (behind : (zs : List ℤ) → SpellsNumbers bytes zs → (ys : List ℤ) × SpellsNumbers left ys) (more : left ≡ [] → ⊥) where
  without_number : NoFront IsVarint left → (zs : List ℤ) → SpellsNumbers bytes zs → ⊥
  without_number none zs s = let b = behind zs s in no_numbers left more none b.0 b.1

  pub no_more_numbers : (e : WireError) → RefusesFront IsVarint left e → VarintFault 10 left e → Rejects SpellsNumbers PackedFault bytes e
  no_more_numbers e h fault = refused IsVarint (VarintFault 10) SpellsNumbers PackedFault left bytes e without_number
      (λ none told. record { none = without_number none; why = (done, left, found, told) }) h (tells_fault (VarintFault 10) left e fault)

no_raw : (levels : ℕ) (key : WireKey) (bytes : List ℕ) → NoFront (IsRawValue levels key) bytes → NoFront (IsValue levels key) bytes
no_raw levels key bytes none front more p h e = none front more (value_of p) (p, h, refl) e

-- behind some records stands no further one
module _ (levels : ℕ) (bytes rest : List ℕ) (done : Records) (found : Fronts (SpellsRecords levels) bytes done rest) (more : rest ≡ [] → ⊥) where
  without_key : NoFront IsKey rest → (fs : List Field) → SpellsFields levels bytes fs → ⊥
  without_key none fs s = no_key_no_records levels bytes rest done found more none s.0 s.1

  pub no_key_no_fields : (e : WireError) → RefusesFront IsKey rest e → KeyFault rest e → Rejects (SpellsFields levels) (BytesFault levels) bytes e
  no_key_no_fields e h fault =
      refused IsKey KeyFault (SpellsFields levels) (BytesFault levels) rest bytes e without_key (λ none told. record { none = without_key none; why = (done, (rest, found, inl told)) }) h (tells_fault KeyFault rest e fault)

  module _ (key : WireKey) (behind : List ℕ) (read : Fronts IsKey rest key behind) where
    without_value : NoFront (IsRawValue levels key) behind → (fs : List Field) → SpellsFields levels bytes fs → ⊥
    without_value none fs s = no_value_no_records levels bytes rest done found more key behind read (no_raw levels key behind none) s.0 s.1

    pub no_value_no_fields : (e : WireError) → RefusesFront (IsRawValue levels key) behind e → TellsTrue (ValueFault levels key) behind e → Rejects (SpellsFields levels) (BytesFault levels) bytes e
    no_value_no_fields e h fault = refused (IsRawValue levels key) (ValueFault levels key) (SpellsFields levels) (BytesFault levels) behind bytes e without_value
        (λ none told. record { none = without_value none; why = (done, (rest, found, inr (key, (behind, read, told)))) }) h fault
