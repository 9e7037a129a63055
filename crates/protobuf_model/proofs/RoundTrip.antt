-- A message's records are accepted and mean it.
use Rattle.std.proofs.Common.{◌≡◌, ◌⊎◌, inl, inr, ℕ, zero, suc, ◌<◌, ◌-◌, ◌^◌, Bool, true, false, cond, List, [], ◌∷◌, length, Option, Some, None, refl, sym, ap, ◌∙◌, subst, arith}
use Rattle.std.specs.List.{AllByRecursion}
use mathlib.Core.Path.{fun_ext}
use Rattle.reflect_wire.specs.Records.{Payload, delimited, group, SpellsRecords}
use Rattle.reflect_wire.specs.Views.{records_of}
use Rattle.reflect_wire.specs.Encoding.{records_bytes}
use Rattle.reflect_wire.specs.Written.{FitsPayload, FitsRecords}
use Rattle.reflect_wire.proofs.Spelling.{records_spelled}
use Rattle.protobuf_model.specs.Values.{Content, list, dictionary, more_contents, more_entries, Held, content, records, Message, absent, nothing}
use Rattle.protobuf_model.specs.Types.{Name, Frame, sized, tagged, Kind, scalar, nested, Part, Label, one, many, keyed, Field, Types, rival}
use Rattle.protobuf_model.specs.Reader.{inside, inside_of}
use Rattle.protobuf_model.specs.Meaning.{is_in, standing, held_by, taken, held, meaning_by, meaning}
use Rattle.protobuf_model.specs.Accepts.{Acceptable, IsFramed, AcceptsIn, AcceptsRecord, Accepts}
use Rattle.protobuf_model.specs.Typed.{IsFieldOf, IsHeldOf, IsTypedBy, IsTyped}
use Rattle.protobuf_model.specs.Bytes.{numbered, in_frame, payloads_in, payloads_under, written, bytes_of}
use Rattle.protobuf_model.proofs.Pieces.{Inner}
use Rattle.protobuf_model.proofs.Arranged.{InRange, arranged_at, all_arranged, all_payloads, standing_arranged}
use Rattle.protobuf_model.proofs.Singles.{IsSized}
use Rattle.protobuf_model.proofs.Sizes.{all_sized}
use Rattle.protobuf_model.proofs.Reading.{inside_written, listed_back}
use Rattle.protobuf_model.proofs.Putting.{AreBack}
use Rattle.protobuf_model.proofs.Lists.{all_map, one_taken, list_taken}
use Rattle.protobuf_model.proofs.Maps.{map_taken}

taken_nothing : (inner : Inner) (part : Part) (k : Kind) → taken inner part k absent [] ≡ absent
taken_nothing inner part (scalar k) = refl
taken_nothing inner part (nested frame j) = refl

pub held_nothing : (inner : Inner) (part : Part) (l : Label) → held_by inner part l absent [] ≡ absent
held_nothing inner part one = taken_nothing inner part part.kind
held_nothing inner part (many packed) = refl
held_nothing inner part (keyed key) = refl

pub left_absent : (b : Bool) → cond b absent absent ≡ absent
left_absent true = refl
left_absent false = refl

-- records that are accepted fit
pub accepted_fit : (accept : Acceptable) (levels : ℕ) (type : ℕ → Option Field) (rs : List (ℕ × Payload)) → AllByRecursion (AcceptsRecord accept levels type) rs → FitsRecords levels (records_of rs)
accepted_fit accept levels type [] h = tt
accepted_fit accept levels type (r ∷ rs) h = (h.0.some, h.0.small, h.0.fits, accepted_fit accept levels type rs h.1)

module _ (types : Types) (accept : Acceptable) (inner : Inner) (typed : Name → Message → Type 0) (levels : ℕ) (each : AreBack types accept inner typed levels) where
  abbrev Takes : Option Field → Held → Type 0
  Takes o h = AllByRecursion IsSized (payloads_under types o h)
      → AllByRecursion (λ p. FitsPayload levels p × AcceptsIn accept levels o p) (payloads_under types o h) × (held inner o absent (payloads_under types o h) ≡ h)

  pub field_back : (part : Part) (l : Label) (c : Content) → IsFieldOf typed part l c → AllByRecursion IsSized (payloads_in types part l c)
      → AllByRecursion (λ p. FitsPayload levels p × AcceptsIn accept levels (Some (record { part = part; label = l; oneof = None; extension = false })) p) (payloads_in types part l c) × (held_by inner part l absent (payloads_in types part l c) ≡ content c)
  field_back part one c h = one_taken types accept inner typed levels each part c h
  field_back part (many packed) (list (more_contents c cs)) h = list_taken types accept inner typed levels each part packed c cs h
  field_back part (keyed key) (dictionary (more_entries k c es)) h = map_taken types accept inner typed levels each key part k c es h.0 h.1
  field_back part l c h = absurd h

  held_back : (o : Option Field) (h : Held) → IsHeldOf typed levels o h → Takes o h
  held_back None (records ps) t z = (all_map (FitsPayload levels) (λ p. FitsPayload levels p × Unit {0}) ps (λ p f. (f, tt)) t, refl)
  held_back None (content c) t z = absurd t
  held_back (Some f) (records ps) t z = subst (λ ps. AllByRecursion (λ p. FitsPayload levels p × AcceptsIn accept levels (Some f) p) ps × (held_by inner f.part f.label absent ps ≡ records ps)) (sym t) (tt, held_nothing inner f.part f.label)
  held_back (Some f) (content c) t z = field_back f.part f.label c t z

  under_nothing : (o : Option Field) (h : Held) → h ≡ absent → payloads_under types o h ≡ []
  under_nothing o h e = ap (payloads_under types o) e

  module _ (i : Name) (m : Message) (t : IsTypedBy typed levels (types i) m) (z : length (bytes_of types i m) < 2 ^ 64) where
    abbrev under : ℕ → List Payload
    under = λ n. payloads_under types (types i n) (m n)

    in_range : (n : ℕ) → (under n ≡ []) ⊎ InRange n
    in_range n = elim (t.numbers n) [ inl e ↦ inl (under_nothing (types i n) (m n) e) | inr h ↦ inr h ]

    exclusive : (n q : ℕ) → rival (types i) n q ≡ true → (under n ≡ []) ⊎ (under q ≡ [])
    exclusive n q e = elim (t.exclusive n q e) [ inl a ↦ inl (under_nothing (types i n) (m n) a) | inr a ↦ inr (under_nothing (types i q) (m q) a) ]

    takes : (n : ℕ) → AllByRecursion (λ p. FitsPayload levels p × AcceptsIn accept levels (types i n) p) (under n) × (held inner (types i n) absent (under n) ≡ m n)
    takes n = held_back (types i n) (m n) (t.contents n) (subst (AllByRecursion IsSized) (arranged_at (types i) under n (in_range n)) (all_payloads (λ r. IsSized r.1) n (written types i m) (all_sized (written types i m) z)))

    accepts_under : (n : ℕ) (ps : List Payload) → InRange n → AllByRecursion (λ p. FitsPayload levels p × AcceptsIn accept levels (types i n) p) ps → AllByRecursion (AcceptsRecord accept levels (types i)) (numbered n ps)
    accepts_under n [] h a = tt
    accepts_under n (p ∷ ps) h a = (record { some = h.0; small = h.1; fits = a.0.0; suits = a.0.1 }, accepts_under n ps h a.1)

    each_accepted : (n : ℕ) → AllByRecursion (AcceptsRecord accept levels (types i)) (numbered n (under n))
    each_accepted n = elim (in_range n) [
      | inl e ↦ subst (λ ps. AllByRecursion (AcceptsRecord accept levels (types i)) (numbered n ps)) (sym e) tt
      | inr h ↦ accepts_under n (under n) h (takes n).0
    ]

    pub written_accepted : AllByRecursion (AcceptsRecord accept levels (types i)) (written types i m)
    written_accepted = all_arranged (AcceptsRecord accept levels (types i)) (types i) under each_accepted

    pub written_means : meaning_by inner types i nothing (written types i m) ≡ m
    written_means = fun_ext (λ n.
        ap (λ h. held inner (types i n) h (standing (rival (types i) n) n (written types i m))) (left_absent (is_in (rival (types i) n) (written types i m)))
        ∙ ap (held inner (types i n) absent) (standing_arranged (rival (types i) n) (types i) under n (in_range n) (exclusive n))
        ∙ (takes n).1)

pub record IsRoundTrip (levels : ℕ) (types : Types) (i : Name) (m : Message) : Type 0 where
  pub accepted : Accepts levels types i (written types i m)
  pub means : meaning levels types i nothing (written types i m) ≡ m

-- a message as one payload
pub record IsInFrame (levels : ℕ) (types : Types) (frame : Frame) (j : Name) (m : Message) (p : Payload) : Type 0 where
  pub framed : IsFramed levels frame p
  pub fits : FitsPayload (suc levels) p
  pub inside : inside_of p ≡ written types j m

pub accepted_fits : (levels : ℕ) (types : Types) (j : Name) (rs : List (ℕ × Payload)) → Accepts levels types j rs → FitsRecords levels (records_of rs)
accepted_fits zero types j rs h = accepted_fit (λ frame j p. ⊥) zero (types j) rs h
accepted_fits (suc levels) types j rs h = accepted_fit (λ frame j p. IsFramed levels frame p × Accepts levels types j (inside_of p)) (suc levels) (types j) rs h

-- records that fit, behind their length or between tags
pub in_frame_at : (levels : ℕ) (types : Types) (frame : Frame) (j : Name) (m : Message) → FitsRecords levels (records_of (written types j m)) → (p : Payload) → in_frame (nested frame j) (written types j m) ≡ p ∷ [] → IsSized p → IsInFrame levels types frame j m p
in_frame_at levels types sized j m f p e z =
    let rs = written types j m in
    let body = records_bytes (records_of rs) in
    let read : inside body ≡ rs = inside_written levels rs f in
    let same : delimited body ≡ p = cc (e) in
    subst (IsInFrame levels types sized j m) same (record {
      framed = subst (λ rs'. SpellsRecords levels body (records_of rs')) (sym read) (records_spelled levels (records_of rs) f);
      fits = subst IsSized (sym same) z;
      inside = read;
    })
in_frame_at levels types tagged j m f p e z =
    let rs = written types j m in
    let same : group (records_of rs) ≡ p = cc (e) in
    subst (IsInFrame levels types tagged j m) same (record {
      framed = tt;
      fits = (omega arith, subst (λ l. FitsRecords l (records_of rs)) (let e : levels ≡ suc levels - 1 = omega arith in e) f);
      inside = listed_back rs;
    })

pub sized_bytes : (types : Types) (frame : Frame) (j : Name) (m : Message) (p : Payload) → in_frame (nested frame j) (written types j m) ≡ p ∷ [] → IsSized p → length (bytes_of types j m) < 2 ^ 64
sized_bytes types sized j m p e z = let same : delimited (bytes_of types j m) ≡ p = cc (e) in subst IsSized (sym same) z
sized_bytes types tagged j m p e z = let same : group (records_of (written types j m)) ≡ p = cc (e) in subst IsSized (sym same) z

abbrev RoundTrips : ℕ → Types → Type 0
RoundTrips levels types = (j : Name) (m : Message) → IsTyped levels types j m → length (bytes_of types j m) < 2 ^ 64 → IsRoundTrip levels types j m

pub none_back : (types : Types) → AreBack types (λ frame j p. ⊥) (λ j m rs. m) (λ j m. ⊥) zero
none_back types = record { accepted = λ frame j m t. absurd t; back = λ frame j m t. absurd t; deeper = λ j m t. absurd t }

pub more_back : (levels : ℕ) (types : Types) → RoundTrips levels types → AreBack types (λ frame j p. IsFramed levels frame p × Accepts levels types j (inside_of p)) (meaning levels types) (IsTyped levels types) (suc levels)
more_back levels types each = record {
  accepted = λ frame j m t p e z.
      let r = each j m t (sized_bytes types frame j m p e z) in
      let f = in_frame_at levels types frame j m (accepted_fits levels types j (written types j m) r.accepted) p e z in
      ((f.framed, subst (Accepts levels types j) (sym f.inside) r.accepted), f.fits);
  back = λ frame j m t p e z.
      let r = each j m t (sized_bytes types frame j m p e z) in
      let f = in_frame_at levels types frame j m (accepted_fits levels types j (written types j m) r.accepted) p e z in
      ap (meaning levels types j nothing) f.inside ∙ r.means;
  deeper = λ j m t. omega arith;
}

-- a message that suits its type, of no more bytes than a length can say
pub round_trip : (levels : ℕ) (types : Types) → RoundTrips levels types
round_trip zero types i m t z = record {
  accepted = written_accepted types (λ frame j p. ⊥) (λ j m rs. m) (λ j m. ⊥) zero (none_back types) i m t z;
  means = written_means types (λ frame j p. ⊥) (λ j m rs. m) (λ j m. ⊥) zero (none_back types) i m t z;
}
round_trip (suc levels) types i m t z =
    let accept = λ (frame : Frame) (j : Name) (p : Payload). IsFramed levels frame p × Accepts levels types j (inside_of p) in
    let each = more_back levels types (round_trip levels types) in
    record {
      accepted = written_accepted types accept (meaning levels types) (IsTyped levels types) (suc levels) each i m t z;
      means = written_means types accept (meaning levels types) (IsTyped levels types) (suc levels) each i m t z;
    }
