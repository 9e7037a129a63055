-- Whether bytes spell given records.
use Rattle.std.proofs.Common.{◌≡◌, inl, inr, ℕ, ◌<◌, ◌-◌, List, [], ◌∷◌, ◌++◌, refl, sym, ap, ◌∙◌, subst, append_assoc, append-nil}
use Rattle.std.proofs.lemmas.Bool.{cases_eq}
use Rattle.std.specs.Int.{w32, w64, from_le_bytes}
use Rattle.reflect_wire.specs.declared.wire_key.WireType.{WireType}
use Rattle.reflect_wire.specs.declared.wire_key.WireType.TheVariants.{Varint, SixtyFourBit, LengthDelimited, StartGroup, EndGroup, ThirtyTwoBit}
use Rattle.reflect_wire.specs.Key.{IsKey, code_of}
use Rattle.reflect_wire.specs.Records.{Payload, varint, fixed64, delimited, group, fixed32, Records, no_records, more_records, key_of, wire_of, SpellsPayload, SpellsRecords}
use Rattle.reflect_wire.proofs.Unique.{one_key, one_payload}
use Rattle.reflect_wire.proofs.Whole.{regrouped}
use Rattle.protobuf_model.specs.Reader.{wire_in}
use Rattle.protobuf_model.specs.Accepts.{SpellsRow}
use Rattle.print_view.proofs.Deciding.{Decided, as_or_not, less_or_not}
use Rattle.print_view.proofs.DecidingFronts.{Front, varint_or_not, key_or_not, delimited_or_not, fixed_or_not}

-- behind the same records stands the same
one_rest : (levels : ℕ) (a b x y : List ℕ) (rs : Records) → SpellsRecords levels a rs → SpellsRecords levels b rs → a ++ x ≡ b ++ y → x ≡ y
one_rest levels a b x y no_records h k e = sym (ap (λ f. f ++ x) h) ∙ e ∙ ap (λ f. f ++ y) k
one_rest levels a b x y (more_records n p rs) h k e =
    let whole : h.0 ++ (h.1 ++ (h.2 ++ x)) ≡ k.0 ++ (k.1 ++ (k.2 ++ y)) = sym (ap (λ f. f ++ x) h.6 ∙ regrouped h.0 h.1 h.2 x) ∙ e ∙ ap (λ f. f ++ y) k.6 ∙ regrouped k.0 k.1 k.2 y in
    let key = one_key h.0 k.0 (h.1 ++ (h.2 ++ x)) (k.1 ++ (k.2 ++ y)) (key_of n (wire_of p)) (key_of n (wire_of p)) h.3 k.3 whole in
    let value = one_payload levels n h.1 k.1 (h.2 ++ x) (k.2 ++ y) p p refl h.4 k.4 key.2 in
    one_rest levels h.2 k.2 x y rs h.5 k.5 value.2

abbrev KeyFront : ℕ → Payload → List ℕ → Type 0
KeyFront n p bytes = Front (λ f. IsKey f (key_of n (wire_of p))) bytes

abbrev PayloadFront : ℕ → ℕ → Payload → List ℕ → Type 0
PayloadFront levels n p bytes = Front (λ f. SpellsPayload levels n f p) bytes

abbrev RecordsFront : ℕ → Records → List ℕ → Type 0
RecordsFront levels rs bytes = Front (λ f. SpellsRecords levels f rs) bytes

-- a group, by its records and what stands behind them
group_by : (levels n : ℕ) (bytes : List ℕ) (rs : Records) → Decided (0 < levels) → Decided (RecordsFront (levels - 1) rs bytes) → Decided (PayloadFront levels n (group rs) bytes)
group_by levels n bytes rs = by where
  whole : (h : PayloadFront levels n (group rs) bytes) → bytes ≡ h.2.1.0 ++ (h.2.1.1 ++ h.1)
  whole h = h.3 ∙ ap (λ f. f ++ h.1) h.2.1.4 ∙ append_assoc h.2.1.0 h.2.1.1 h.1

  ended : 0 < levels → (r : RecordsFront (levels - 1) rs bytes) → Decided (Front (λ f. IsKey f (key_of n EndGroup)) r.1) → Decided (PayloadFront levels n (group rs) bytes)
  ended some r (inl k) = inl (r.0 ++ k.0, k.1, (some, (r.0, k.0, r.2, k.2, refl)), r.3 ∙ ap (λ x. r.0 ++ x) k.3 ∙ sym (append_assoc r.0 k.0 k.1))
  ended some r (inr never) = inr (λ h. never (h.2.1.1, h.1, h.2.1.3, one_rest (levels - 1) r.0 h.2.1.0 r.1 (h.2.1.1 ++ h.1) rs r.2 h.2.1.2 (sym r.3 ∙ whole h)))

  by : Decided (0 < levels) → Decided (RecordsFront (levels - 1) rs bytes) → Decided (PayloadFront levels n (group rs) bytes)
  by (inl some) (inl r) = ended some r (key_or_not r.1 (key_of n EndGroup))
  by (inl some) (inr never) = inr (λ h. never (h.2.1.0, h.2.1.1 ++ h.1, h.2.1.2, whole h))
  by (inr none) d = inr (λ h. none h.2.0)

-- a record and those behind it, by its key, its payload and them
record_by : (levels n : ℕ) (p : Payload) (rs : Records) (bytes : List ℕ) → ((b : List ℕ) → Decided (PayloadFront levels n p b)) → ((b : List ℕ) → Decided (RecordsFront levels rs b))
    → Decided (KeyFront n p bytes) → Decided (RecordsFront levels (more_records n p rs) bytes)
record_by levels n p rs bytes payload more = by where
  whole : (h : RecordsFront levels (more_records n p rs) bytes) → bytes ≡ h.2.0 ++ (h.2.1 ++ (h.2.2 ++ h.1))
  whole h = h.3 ∙ ap (λ f. f ++ h.1) h.2.6 ∙ regrouped h.2.0 h.2.1 h.2.2 h.1

  keyed : (k : KeyFront n p bytes) (h : RecordsFront levels (more_records n p rs) bytes) → k.1 ≡ h.2.1 ++ (h.2.2 ++ h.1)
  keyed k h = (one_key k.0 h.2.0 k.1 (h.2.1 ++ (h.2.2 ++ h.1)) (key_of n (wire_of p)) (key_of n (wire_of p)) k.2 h.2.3 (sym k.3 ∙ whole h)).2

  last : (k : KeyFront n p bytes) (v : PayloadFront levels n p k.1) → Decided (RecordsFront levels rs v.1) → Decided (RecordsFront levels (more_records n p rs) bytes)
  last k v (inl r) = inl (k.0 ++ (v.0 ++ r.0), r.1, (k.0, v.0, r.0, k.2, v.2, r.2, refl), k.3 ∙ ap (λ x. k.0 ++ x) (v.3 ∙ ap (λ x. v.0 ++ x) r.3) ∙ sym (regrouped k.0 v.0 r.0 r.1))
  last k v (inr never) = inr (λ h. let one = one_payload levels n v.0 h.2.1 v.1 (h.2.2 ++ h.1) p p refl v.2 h.2.4 (sym v.3 ∙ keyed k h) in never (h.2.2, h.1, h.2.5, one.2))

  valued : (k : KeyFront n p bytes) → Decided (PayloadFront levels n p k.1) → Decided (RecordsFront levels (more_records n p rs) bytes)
  valued k (inl v) = last k v (more v.1)
  valued k (inr never) = inr (λ h. never (h.2.1, h.2.2 ++ h.1, h.2.4, keyed k h))

  by : Decided (KeyFront n p bytes) → Decided (RecordsFront levels (more_records n p rs) bytes)
  by (inl k) = valued k (payload k.1)
  by (inr never) = inr (λ h. never (h.2.0, h.2.1 ++ (h.2.2 ++ h.1), h.2.3, whole h))

mutual
  payload_or_not : (levels n : ℕ) (p : Payload) (bytes : List ℕ) → Decided (PayloadFront levels n p bytes)
  payload_or_not levels n (varint v) bytes = varint_or_not 10 bytes v
  payload_or_not levels n (fixed64 v) bytes = fixed_or_not 8 (from_le_bytes w64) bytes v
  payload_or_not levels n (delimited p) bytes = delimited_or_not bytes p
  payload_or_not levels n (group rs) bytes = group_by levels n bytes rs (less_or_not 0 levels) (records_or_not (levels - 1) rs bytes)
  payload_or_not levels n (fixed32 v) bytes = fixed_or_not 4 (from_le_bytes w32) bytes v

  records_or_not : (levels : ℕ) (rs : Records) (bytes : List ℕ) → Decided (RecordsFront levels rs bytes)
  records_or_not levels no_records bytes = inl ([], bytes, refl, refl)
  records_or_not levels (more_records n p rs) bytes = record_by levels n p rs bytes (payload_or_not levels n p) (records_or_not levels rs) (key_or_not bytes (key_of n (wire_of p)))

-- all bytes spell the records
pub spelled_or_not : (levels : ℕ) (bytes : List ℕ) (rs : Records) → Decided (SpellsRecords levels bytes rs)
spelled_or_not levels bytes rs = by (records_or_not levels rs bytes) where
  none_behind : (front rest : List ℕ) → SpellsRecords levels front rs → bytes ≡ front ++ rest → Decided (SpellsRecords levels bytes rs)
  none_behind front [] s e = inl (subst (λ f. SpellsRecords levels f rs) (sym (e ∙ append-nil front)) s)
  none_behind front (c ∷ cs) s e = inr (λ t. let same : c ∷ cs ≡ [] = one_rest levels front bytes (c ∷ cs) [] rs s t (sym e ∙ sym (append-nil bytes)) in cc)

  by : Decided (RecordsFront levels rs bytes) → Decided (SpellsRecords levels bytes rs)
  by (inl h) = none_behind h.0 h.1 h.2 h.3
  by (inr never) = inr (λ s. never (bytes, [], s, sym (append-nil bytes)))

wire_back : (w : WireType) → wire_in (code_of w) ≡ w
wire_back Varint = refl
wire_back SixtyFourBit = refl
wire_back LengthDelimited = refl
wire_back StartGroup = refl
wire_back EndGroup = refl
wire_back ThirtyTwoBit = refl

wire_or_not : (v w : WireType) → Decided (v ≡ w)
wire_or_not v w = as_or_not (λ e. sym (wire_back v) ∙ ap wire_in e ∙ wire_back w) (λ e. ap code_of e) (cases_eq (code_of v) (code_of w))

-- a payload of a row and those behind it
row_by : (w : WireType) (p : Payload) (ps : List Payload) (bytes : List ℕ) → ((b : List ℕ) → Decided (SpellsRow w b ps)) → Decided (wire_of p ≡ w) → Decided (PayloadFront 0 0 p bytes) → Decided (SpellsRow w bytes (p ∷ ps))
row_by w p ps bytes more = by where
  last : wire_of p ≡ w → (v : PayloadFront 0 0 p bytes) → Decided (SpellsRow w v.1 ps) → Decided (SpellsRow w bytes (p ∷ ps))
  last same v (inl r) = inl (v.0, v.1, same, v.2, r, v.3)
  last same v (inr never) = inr (λ h. let one = one_payload 0 0 v.0 h.0 v.1 h.1 p p refl v.2 h.3 (sym v.3 ∙ h.5) in never (subst (λ b. SpellsRow w b ps) (sym one.2) h.4))

  by : Decided (wire_of p ≡ w) → Decided (PayloadFront 0 0 p bytes) → Decided (SpellsRow w bytes (p ∷ ps))
  by (inl same) (inl v) = last same v (more v.1)
  by (inl same) (inr never) = inr (λ h. never (h.0, h.1, h.3, h.5))
  by (inr other) d = inr (λ h. other h.2)

pub row_or_not : (w : WireType) (ps : List Payload) (bytes : List ℕ) → Decided (SpellsRow w bytes ps)
row_or_not w [] [] = inl refl
row_or_not w [] (b ∷ bs) = inr (λ e. cc)
row_or_not w (p ∷ ps) bytes = row_by w p ps bytes (row_or_not w ps) (wire_or_not (wire_of p) w) (payload_or_not 0 0 p bytes)
