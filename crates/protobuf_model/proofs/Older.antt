-- What the newer type accepts the older accepts; what the older then writes the newer accepts, and it means the same to it.
use Rattle.std.proofs.Common.{◌≡◌, ◌⊎◌, inl, inr, ℕ, zero, suc, ◌<◌, ◌^◌, true, List, [], ◌∷◌, length, Option, Some, None, refl, sym, ap, ◌∙◌, subst, arith}
use Rattle.std.specs.List.{AllByRecursion}
use mathlib.Core.Path.{fun_ext}
use Rattle.reflect_wire.specs.Records.{Payload, delimited}
use Rattle.reflect_wire.specs.Written.{FitsPayload}
use Rattle.protobuf_model.specs.Values.{Message, absent, nothing}
use Rattle.protobuf_model.specs.Types.{Name, Frame, Kind, scalar, nested, Part, Key, Label, one, many, keyed, Field, Types, rival}
use Rattle.protobuf_model.specs.Reader.{inside, inside_of}
use Rattle.protobuf_model.specs.Meaning.{is_in, standing, held, meaning_by, meaning}
use Rattle.protobuf_model.specs.Accepts.{Acceptable, IsScalar, AcceptsPart, IsPacked, AcceptsEntryRecord, HasLevel, AcceptsEntry, AcceptsField, AcceptsIn, AcceptsRecord, Accepts}
use Rattle.protobuf_model.specs.Typed.{IsTyped, HaveDefaults}
use Rattle.protobuf_model.specs.Bytes.{numbered, payloads_under, written, bytes_of}
use Rattle.protobuf_model.specs.Older.{AreKinds, AnswersTo, AreOlder}
use Rattle.protobuf_model.proofs.Pieces.{Inner}
use Rattle.protobuf_model.proofs.Arranged.{InRange, arranged_at, all_arranged, all_payloads, all_standing, standing_arranged}
use Rattle.protobuf_model.proofs.Exclusive.{standing_apart}
use Rattle.protobuf_model.proofs.Singles.{IsSized}
use Rattle.protobuf_model.proofs.Sizes.{all_sized}
use Rattle.protobuf_model.proofs.Putting.{AreBack}
use Rattle.protobuf_model.proofs.Lists.{all_map}
use Rattle.protobuf_model.proofs.RoundTrip.{held_nothing, left_absent, accepted_fits, in_frame_at, sized_bytes, none_back, more_back, round_trip}
use Rattle.protobuf_model.proofs.Typing.{KeepsTyped}
use Rattle.protobuf_model.proofs.Merging.{Accept, none_keeps, more_keeps, nothing_typed, merged_typed, joined_accepted}
use Rattle.protobuf_model.proofs.Passing.{Passes, held_passed}

module _ (Pair : Name → Name → Type 0) (older newer : Acceptable) (levels : ℕ) (down : (frame : Frame) (i j : Name) (p : Payload) → Pair i j → newer frame j p → older frame i p) where
  part_down : (k l : Kind) (p : Payload) → AreKinds Pair k l → AcceptsPart newer l p → AcceptsPart older k p
  part_down (scalar k) (scalar l) p h a = subst (λ k. IsScalar k p) (sym h) a
  part_down (nested f i) (nested g j) p h a = subst (λ f. older f i p) (sym h.0) (down g i j p h.1 a)
  part_down k l p h a = absurd h

  packed_down : (k l : Kind) (p : Payload) → AreKinds Pair k l → IsPacked l p → IsPacked k p
  packed_down (scalar k) (scalar l) p h a = subst (λ k. IsPacked (scalar k) p) (sym h) a
  packed_down (nested f i) (nested g j) p h a = absurd a
  packed_down k l p h a = absurd h

  level_down : (k l : Kind) → AreKinds Pair k l → HasLevel levels l → HasLevel levels k
  level_down (scalar k) (scalar l) h a = tt
  level_down (nested f i) (nested g j) h a = a
  level_down k l h a = absurd h

  record_down : (a b : Part) (key : Key) (r : ℕ × Payload) → AreKinds Pair a.kind b.kind → AcceptsEntryRecord newer key b r → AcceptsEntryRecord older key a r
  record_down a b key (zero, p) h t = tt
  record_down a b key (suc zero, p) h t = t
  record_down a b key (suc (suc zero), p) h t = part_down a.kind b.kind p h t
  record_down a b key (suc (suc (suc n)), p) h t = tt

  entry_down : (a b : Part) (key : Key) (p : Payload) → AreKinds Pair a.kind b.kind → AcceptsEntry newer levels key b p → AcceptsEntry older levels key a p
  entry_down a b key (delimited body) h t = (level_down a.kind b.kind h t.0, t.1, all_map (AcceptsEntryRecord newer key b) (AcceptsEntryRecord older key a) (inside body) (λ r. record_down a b key r h) t.2)
  entry_down a b key p h t = absurd t

  field_down : (a b : Part) (l : Label) (p : Payload) → AreKinds Pair a.kind b.kind → AcceptsField newer levels b l p → AcceptsField older levels a l p
  field_down a b one p h t = part_down a.kind b.kind p h t
  field_down a b (many packed) p h t = elim t [ inl s ↦ inl (part_down a.kind b.kind p h s) | inr s ↦ inr (packed_down a.kind b.kind p h s) ]
  field_down a b (keyed key) p h t = entry_down a b key p h t

  in_down : (o q : Option Field) (p : Payload) → AnswersTo Pair o q → AcceptsIn newer levels q p → AcceptsIn older levels o p
  in_down None q p h t = tt
  in_down (Some f) None p h t = absurd h
  in_down (Some f) (Some g) p h t = subst (λ l. AcceptsField older levels f.part l p) (sym h.label) (field_down f.part g.part g.label p h.kind t)

  pub all_down : (a b : ℕ → Option Field) → ((n : ℕ) → AnswersTo Pair (a n) (b n)) → (rs : List (ℕ × Payload)) → AllByRecursion (AcceptsRecord newer levels b) rs → AllByRecursion (AcceptsRecord older levels a) rs
  all_down a b h rs t = all_map (AcceptsRecord newer levels b) (AcceptsRecord older levels a) rs (λ r s. record { some = s.some; small = s.small; fits = s.fits; suits = in_down (a r.0) (b r.0) r.1 (h r.0) s.suits }) t

-- what the newer accepts the older accepts
pub older_accepts : (levels : ℕ) (old new : Types) (Pair : Name → Name → Type 0) → AreOlder old new Pair → (i j : Name) → Pair i j → (rs : List (ℕ × Payload)) → Accepts levels new j rs → Accepts levels old i rs
older_accepts zero old new Pair older i j pair rs a = all_down Pair (λ frame j p. ⊥) (λ frame j p. ⊥) zero (λ frame i j p h b. b) (old i) (new j) (older.fields i j pair) rs a
older_accepts (suc levels) old new Pair older i j pair rs a =
    all_down Pair (Accept levels old) (Accept levels new) (suc levels) (λ frame i j p h b. (b.0, older_accepts levels old new Pair older i j h (inside_of p) b.1)) (old i) (new j) (older.fields i j pair) rs a

module _ (old new : Types) (Pair : Name → Name → Type 0) (older : AreOlder old new Pair) (defaults : HaveDefaults new)
    (accept : Acceptable) (before inner : Inner) (typed : Name → Message → Type 0) (lower : Name → List (ℕ × Payload) → Type 0) (levels : ℕ)
    (passes : Passes old new Pair accept before inner typed lower levels) (each : AreBack new accept inner typed levels) (keeps : KeepsTyped accept inner typed levels)
    (i j : Name) (pair : Pair i j) (rs : List (ℕ × Payload)) (a : AllByRecursion (AcceptsRecord accept levels (new j)) rs) where
  abbrev stand : ℕ → List Payload
  stand = λ n. standing (rival (new j) n) n rs

  abbrev taken_by : Message
  taken_by = meaning_by before old i nothing rs

  same_rivals : (n : ℕ) → rival (old i) n ≡ rival (new j) n
  same_rivals n = fun_ext (λ q. older.oneofs i j pair n q)

  older_holds : (n : ℕ) → taken_by n ≡ held before (old i n) absent (stand n)
  older_holds n =
      ap (λ h. held before (old i n) h (standing (rival (old i) n) n rs)) (left_absent (is_in (rival (old i) n) rs))
      ∙ ap (λ rivals. held before (old i n) absent (standing rivals n rs)) (same_rivals n)

  newer_holds : (n : ℕ) → meaning_by inner new j nothing rs n ≡ held inner (new j n) absent (stand n)
  newer_holds n = ap (λ h. held inner (new j n) h (stand n)) (left_absent (is_in (rival (new j) n) rs))

  abbrev under : ℕ → List Payload
  under = λ n. payloads_under old (old i n) (taken_by n)

  nothing_under : (n : ℕ) → stand n ≡ [] → under n ≡ []
  nothing_under n e = ap (payloads_under old (old i n)) (older_holds n ∙ ap (held before (old i n) absent) e ∙ none (old i n)) where
    none : (o : Option Field) → held before o absent [] ≡ absent
    none None = refl
    none (Some f) = held_nothing before f.part f.label

  in_range : (n : ℕ) → (under n ≡ []) ⊎ InRange n
  in_range n = by (stand n) refl (all_standing (rival (new j) n) (λ r. InRange r.0) n rs (all_map (AcceptsRecord accept levels (new j)) (λ r. InRange r.0) rs (λ r h. (h.some, h.small)) a)) where
    by : (ps : List Payload) → stand n ≡ ps → AllByRecursion (λ p. InRange n) (stand n) → (under n ≡ []) ⊎ InRange n
    by [] e h = inl (nothing_under n e)
    by (p ∷ ps) e h = inr (subst (AllByRecursion (λ p. InRange n)) e h).0

  exclusive : (n q : ℕ) → rival (new j) n q ≡ true → (under n ≡ []) ⊎ (under q ≡ [])
  exclusive n q e = elim (standing_apart (new j) n q e rs) [ inl s ↦ inl (nothing_under n s) | inr s ↦ inr (nothing_under q s) ]

  abbrev Takes : ℕ → Payload → Type 0
  Takes n p = FitsPayload levels p × AcceptsIn accept levels (new j n) p

  module _ (z : length (bytes_of old i taken_by) < 2 ^ 64) where
    passed : (n : ℕ) → AllByRecursion (Takes n) (under n) × (held inner (new j n) absent (under n) ≡ held inner (new j n) absent (stand n))
    passed n =
        let small : AllByRecursion IsSized (under n) = subst (AllByRecursion IsSized) (arranged_at (old i) under n (in_range n)) (all_payloads (λ r. IsSized r.1) n (written old i taken_by) (all_sized (written old i taken_by) z)) in
        let takes : AllByRecursion (Takes n) (stand n) = all_map (λ p. AcceptsRecord accept levels (new j) (n, p)) (Takes n) (stand n) (λ p h. (h.fits, h.suits)) (all_standing (rival (new j) n) (AcceptsRecord accept levels (new j)) n rs a) in
        subst (λ h. AllByRecursion IsSized (payloads_under old (old i n) h) → AllByRecursion (Takes n) (payloads_under old (old i n) h) × (held inner (new j n) absent (payloads_under old (old i n) h) ≡ held inner (new j n) absent (stand n))) (sym (older_holds n))
        (held_passed old new Pair accept before inner typed lower levels passes each keeps (old i n) (new j n) (older.fields i j pair n) (defaults j n) (stand n) takes) small

    accepts_under : (n : ℕ) (ps : List Payload) → InRange n → AllByRecursion (Takes n) ps → AllByRecursion (AcceptsRecord accept levels (new j)) (numbered n ps)
    accepts_under n [] h t = tt
    accepts_under n (p ∷ ps) h t = (record { some = h.0; small = h.1; fits = t.0.0; suits = t.0.1 }, accepts_under n ps h t.1)

    each_accepted : (n : ℕ) → AllByRecursion (AcceptsRecord accept levels (new j)) (numbered n (under n))
    each_accepted n = elim (in_range n) [
      | inl e ↦ subst (λ ps. AllByRecursion (AcceptsRecord accept levels (new j)) (numbered n ps)) (sym e) tt
      | inr h ↦ accepts_under n (under n) h (passed n).0
    ]

    pub passage_accepted : AllByRecursion (AcceptsRecord accept levels (new j)) (written old i taken_by)
    passage_accepted = all_arranged (AcceptsRecord accept levels (new j)) (old i) under each_accepted

    pub passage_means : meaning_by inner new j nothing (written old i taken_by) ≡ meaning_by inner new j nothing rs
    passage_means = fun_ext (λ n.
        ap (λ h. held inner (new j n) h (standing (rival (new j) n) n (written old i taken_by))) (left_absent (is_in (rival (new j) n) (written old i taken_by)))
        ∙ ap (held inner (new j n) absent) (standing_arranged (rival (new j) n) (old i) under n (in_range n) (exclusive n))
        ∙ (passed n).1
        ∙ sym (newer_holds n))

-- what the older type writes of what it took
pub record IsPassage (levels : ℕ) (old new : Types) (i j : Name) (rs : List (ℕ × Payload)) : Type 0 where
  pub accepted : Accepts levels new j (written old i (meaning levels old i nothing rs))
  pub means : meaning levels new j nothing (written old i (meaning levels old i nothing rs)) ≡ meaning levels new j nothing rs

abbrev pub ArePassages : ℕ → Types → Types → (Name → Name → Type 0) → Type 0
ArePassages levels old new Pair = (i j : Name) → Pair i j → (rs : List (ℕ × Payload)) → Accepts levels new j rs → length (bytes_of old i (meaning levels old i nothing rs)) < 2 ^ 64 → IsPassage levels old new i j rs

none_passes : (old new : Types) (Pair : Name → Name → Type 0) → Passes old new Pair (λ frame j p. ⊥) (λ j m rs. m) (λ j m rs. m) (λ j m. ⊥) (λ j rs. ⊥) zero
none_passes old new Pair = record {
  again = λ frame i j pair rs a. absurd a;
  opens = λ frame j p a. absurd a;
  joins = λ frame j p ps a. absurd a.0;
  empties = λ j h. omega arith;
  suits = λ j rs a. absurd a;
}

no_records_accepted : (levels : ℕ) (types : Types) (j : Name) → Accepts levels types j []
no_records_accepted zero types j = tt
no_records_accepted (suc levels) types j = tt

more_passes : (levels : ℕ) (old new : Types) (Pair : Name → Name → Type 0) → HaveDefaults new → ArePassages levels old new Pair
    → Passes old new Pair (Accept levels new) (meaning levels old) (meaning levels new) (IsTyped levels new) (λ j rs. Accepts levels new j rs) (suc levels)
more_passes levels old new Pair defaults deeper = record {
  again = λ frame i j pair rs a p e z.
      let m = meaning levels old i nothing rs in
      let r = deeper i j pair rs a (sized_bytes old frame i m p e z) in
      let f = in_frame_at levels old frame i m (accepted_fits levels new j (written old i m) r.accepted) p e z in
      ((f.framed, subst (Accepts levels new j) (sym f.inside) r.accepted), f.fits, ap (meaning levels new j nothing) f.inside ∙ r.means);
  opens = λ frame j p a. a.1;
  joins = λ frame j p ps a. joined_accepted levels new frame j (p ∷ ps) a;
  empties = λ j h. no_records_accepted levels new j;
  suits = λ j rs a. merged_typed levels levels (omega arith) new defaults j nothing rs (nothing_typed levels new j) a;
}

pub passage : (levels : ℕ) (old new : Types) (Pair : Name → Name → Type 0) → AreOlder old new Pair → HaveDefaults new → ArePassages levels old new Pair
passage zero old new Pair older defaults i j pair rs a z = record {
  accepted = passage_accepted old new Pair older defaults (λ frame j p. ⊥) (λ j m rs. m) (λ j m rs. m) (λ j m. ⊥) (λ j rs. ⊥) zero (none_passes old new Pair) (none_back new) none_keeps i j pair rs a z;
  means = passage_means old new Pair older defaults (λ frame j p. ⊥) (λ j m rs. m) (λ j m rs. m) (λ j m. ⊥) (λ j rs. ⊥) zero (none_passes old new Pair) (none_back new) none_keeps i j pair rs a z;
}
passage (suc levels) old new Pair older defaults i j pair rs a z =
    let deeper = more_passes levels old new Pair defaults (passage levels old new Pair older defaults) in
    let each = more_back levels new (round_trip levels new) in
    let keeps = more_keeps levels levels new (merged_typed levels levels (omega arith) new defaults) in
    record {
      accepted = passage_accepted old new Pair older defaults (Accept levels new) (meaning levels old) (meaning levels new) (IsTyped levels new) (λ j rs. Accepts levels new j rs) (suc levels) deeper each keeps i j pair rs a z;
      means = passage_means old new Pair older defaults (Accept levels new) (meaning levels old) (meaning levels new) (IsTyped levels new) (λ j rs. Accepts levels new j rs) (suc levels) deeper each keeps i j pair rs a z;
    }
