-- Records that the newer type accepts, written by the older one: the newer accepts them, and they mean the same to it.
use Rattle.std.proofs.Common.{◌≡◌, inl, inr, ℕ, ◌<◌, ◌&&◌, Bool, true, false, cond, List, [], ◌∷◌, ◌++◌, map, Option, Some, None, refl, sym, ap, ◌∙◌, subst, append-nil, arith}
use Rattle.std.specs.List.{flat_map, AllByRecursion}
use Rattle.reflect_wire.specs.Records.{Payload, delimited}
use Rattle.reflect_wire.specs.Views.{records_of}
use Rattle.reflect_wire.specs.Encoding.{records_bytes}
use Rattle.reflect_wire.specs.Written.{FitsPayload}
use Rattle.protobuf_model.specs.Values.{Single, Content, single, message, list, dictionary, Contents, no_contents, more_contents, Entries, no_entries, more_entries, Held, content, records, Message, absent, nothing, list_of, chain_of, pairs_of, entries_of}
use Rattle.protobuf_model.specs.Types.{Name, Scalar, Frame, sized, tagged, Kind, scalar, nested, Part, Key, Label, one, many, keyed, Field, Types}
use Rattle.protobuf_model.specs.Scalars.{written_as, same, Suits}
use Rattle.protobuf_model.specs.Keys.{below, put}
use Rattle.protobuf_model.specs.Reader.{inside, inside_of}
use Rattle.protobuf_model.specs.Meaning.{payloads, joined, elements, if_any, entry, if_some, put_all, held_by, held}
use Rattle.protobuf_model.specs.Accepts.{Acceptable, AcceptsEntryRecord, AcceptsEntry, AcceptsField, AcceptsIn}
use Rattle.protobuf_model.specs.Typed.{IsOf, IsEntryOf, IsFieldOf, HasEntryDefaults, HasDefaults}
use Rattle.protobuf_model.specs.Bytes.{bare, in_frame, entry_records, is_packable, unless_default, payloads_in, payloads_under, each_payload, entry_payloads, written}
use Rattle.protobuf_model.specs.Older.{AreKinds, AnswersTo}
use Rattle.protobuf_model.proofs.Pieces.{Inner}
use Rattle.protobuf_model.proofs.Arranged.{all_payloads}
use Rattle.protobuf_model.proofs.Singles.{IsSized}
use Rattle.protobuf_model.proofs.Putting.{AreBack, part}
use Rattle.protobuf_model.proofs.Lists.{all_map}
use Rattle.protobuf_model.proofs.Maps.{ValueBack, key_back, entry_parts, put_in_order}
use Rattle.protobuf_model.proofs.RoundTrip.{held_nothing, field_back}
use Rattle.protobuf_model.proofs.Typing.{KeepsTyped, IsFieldHeld, field_typed, last_suits, all_entries, put_all_map}

framed : (frame : Frame) (j : Name) (rs : List (ℕ × Payload)) → (p : Payload) × (in_frame (nested frame j) rs ≡ p ∷ [])
framed sized j rs = (_, refl)
framed tagged j rs = (_, refl)

-- what a field holds, written
abbrev pub under_of : Types → Part → Label → Held → List Payload
under_of types part l (records ps) = ps
under_of types part l (content c) = payloads_in types part l c

pub under_is : (types : Types) (f : Field) (h : Held) → payloads_under types (Some f) h ≡ under_of types f.part f.label h
under_is types f (records ps) = refl
under_is types f (content c) = refl

-- single values are written alike by all types
module _ (old new : Types) (typed : Name → Message → Type 0) (k : Scalar) (b : Bool) (d : Single) where
  abbrev it : Part
  it = part (scalar k) b d

  one_alike : (c : Content) → IsOf typed (scalar k) c → payloads_in old it one c ≡ payloads_in new it one c
  one_alike (single v) h = refl
  one_alike c h = absurd h

  each_alike : (cs : Contents) → AllByRecursion (IsOf typed (scalar k)) (list_of cs) → each_payload old it cs ≡ each_payload new it cs
  each_alike no_contents h = refl
  each_alike (more_contents c cs) h = ap (λ ps. ps ++ each_payload old it cs) (one_alike c h.0) ∙ ap (λ ps. payloads_in new it one c ++ ps) (each_alike cs h.1)

  entries_alike : (key : Key) (es : Entries) → AllByRecursion (IsEntryOf typed key it) (pairs_of es) → entry_payloads old key it es ≡ entry_payloads new key it es
  entries_alike key no_entries h = refl
  entries_alike key (more_entries a c es) h =
      ap (λ ps. delimited (records_bytes (records_of (entry_records key it a c ps))) ∷ entry_payloads old key it es) (one_alike c h.0.1)
      ∙ ap (λ ps. delimited (records_bytes (records_of (entry_records key it a c (payloads_in new it one c)))) ∷ ps) (entries_alike key es h.1)

  field_alike : (l : Label) (c : Content) → IsFieldOf typed it l c → payloads_in old it l c ≡ payloads_in new it l c
  field_alike one c h = one_alike c h.0
  field_alike (many packed) (list (more_contents c cs)) h =
      ap (λ ps. cond (packed && is_packable (scalar k)) (delimited (bare ps) ∷ []) ps) (each_alike (more_contents c cs) h)
  field_alike (keyed key) (dictionary (more_entries a c es)) h = entries_alike key (more_entries a c es) h.0
  field_alike l c h = absurd h

  pub under_alike : (accept : Acceptable) (inner : Inner) (levels : ℕ) (keeps : KeepsTyped accept inner typed levels) (l : Label) (h : Held) → IsFieldHeld accept inner typed levels keeps it l h → under_of old it l h ≡ under_of new it l h
  under_alike accept inner levels keeps l (records ps) h = refl
  under_alike accept inner levels keeps l (content c) h = field_alike l c h

-- what messages one level down do: `lower` are the records that the newer type accepts there
pub record Passes (old new : Types) (Pair : Name → Name → Type 0) (accept : Acceptable) (before inner : Inner) (typed : Name → Message → Type 0) (lower : Name → List (ℕ × Payload) → Type 0) (levels : ℕ) : Type 0 where
  pub again : (frame : Frame) (i j : Name) → Pair i j → (rs : List (ℕ × Payload)) → lower j rs → (p : Payload) → in_frame (nested frame i) (written old i (before i nothing rs)) ≡ p ∷ [] → IsSized p
      → accept frame j p × FitsPayload levels p × (inner j nothing (inside_of p) ≡ inner j nothing rs)
  pub opens : (frame : Frame) (j : Name) (p : Payload) → accept frame j p → lower j (inside_of p)
  pub joins : (frame : Frame) (j : Name) (p : Payload) (ps : List Payload) → AllByRecursion (accept frame j) (p ∷ ps) → lower j (joined (p ∷ ps))
  pub empties : (j : Name) → 0 < levels → lower j []
  pub suits : (j : Name) (rs : List (ℕ × Payload)) → lower j rs → typed j (inner j nothing rs)

module _ (old new : Types) (Pair : Name → Name → Type 0) (accept : Acceptable) (before inner : Inner) (typed : Name → Message → Type 0) (lower : Name → List (ℕ × Payload) → Type 0) (levels : ℕ)
    (passes : Passes old new Pair accept before inner typed lower levels) (each : AreBack new accept inner typed levels) (keeps : KeepsTyped accept inner typed levels) where
  abbrev Fits : Part → Label → Payload → Type 0
  Fits part l p = FitsPayload levels p × AcceptsField accept levels part l p

  -- the newer type accepts what the older writes of what it took, and takes it as it did the records themselves
  abbrev IsPassed : Part → Part → Label → List Payload → Type 0
  IsPassed a b l ps =
      AllByRecursion IsSized (under_of old a l (held_by before a l absent ps))
      → AllByRecursion (Fits b l) (under_of old a l (held_by before a l absent ps)) × (held_by inner b l absent (under_of old a l (held_by before a l absent ps)) ≡ held_by inner b l absent ps)

  -- single values
  scalar_same : (k : Scalar) (b : Bool) (d : Single) (l : Label) (ps : List Payload) → held_by before (part (scalar k) b d) l absent ps ≡ held_by inner (part (scalar k) b d) l absent ps
  scalar_same k b d one ps = refl
  scalar_same k b d (many packed) ps = refl
  scalar_same k b d (keyed key) ps = refl

  scalar_again : (k : Scalar) (b : Bool) (d : Single) (l : Label) (h : Held) → IsFieldHeld accept inner typed levels keeps (part (scalar k) b d) l h → AllByRecursion IsSized (under_of new (part (scalar k) b d) l h)
      → AllByRecursion (Fits (part (scalar k) b d) l) (under_of new (part (scalar k) b d) l h) × (held_by inner (part (scalar k) b d) l absent (under_of new (part (scalar k) b d) l h) ≡ h)
  scalar_again k b d l (records ps) t z =
      subst (λ ps. AllByRecursion (Fits (part (scalar k) b d) l) ps × (held_by inner (part (scalar k) b d) l absent ps ≡ records ps)) (sym t) (tt, held_nothing inner (part (scalar k) b d) l)
  scalar_again k b d l (content c) t z = field_back new accept inner typed levels each (part (scalar k) b d) l c t z

  scalar_passed : (k : Scalar) (b : Bool) (d : Single) (l : Label) (ps : List Payload) → HasEntryDefaults (part (scalar k) b d) l → AllByRecursion (Fits (part (scalar k) b d) l) ps → IsPassed (part (scalar k) b d) (part (scalar k) b d) l ps
  scalar_passed k b d l ps s a z =
      let it = part (scalar k) b d in
      let h = held_by inner it l absent ps in
      let suits : IsFieldHeld accept inner typed levels keeps it l h = field_typed accept inner typed levels keeps it l absent ps s refl (all_map (Fits it l) (AcceptsField accept levels it l) ps (λ p f. f.1) a) in
      let same : under_of old it l (held_by before it l absent ps) ≡ under_of new it l h = ap (under_of old it l) (scalar_same k b d l ps) ∙ under_alike old new typed k b d accept inner levels keeps l h suits in
      let back = scalar_again k b d l h suits (subst (AllByRecursion IsSized) same z) in
      (subst (AllByRecursion (Fits it l)) (sym same) back.0, ap (held_by inner it l absent) same ∙ back.1)

  -- messages
  part_of : (frame : Frame) (j : Name) (b : Bool) (d : Single) (l : Label) (ps : List Payload) → AllByRecursion (Fits (part (nested frame j) b d) l) ps → AllByRecursion (AcceptsField accept levels (part (nested frame j) b d) l) ps
  part_of frame j b d l ps a = all_map (Fits (part (nested frame j) b d) l) (AcceptsField accept levels (part (nested frame j) b d) l) ps (λ p f. f.1) a

  message_passed : (frame : Frame) (i j : Name) → Pair i j → (b c : Bool) (d e : Single) (ps : List Payload) → AllByRecursion (Fits (part (nested frame j) c e) one) ps → IsPassed (part (nested frame i) b d) (part (nested frame j) c e) one ps
  message_passed frame i j pair b c d e [] a z = (tt, refl)
  message_passed frame i j pair b c d e (p ∷ ps) a z =
      let f = framed frame i (written old i (before i nothing (joined (p ∷ ps)))) in
      subst (λ qs. AllByRecursion IsSized qs → AllByRecursion (Fits (part (nested frame j) c e) one) qs × (held_by inner (part (nested frame j) c e) one absent qs ≡ held_by inner (part (nested frame j) c e) one absent (p ∷ ps))) (sym f.1)
      (λ y.
      let r = passes.again frame i j pair (joined (p ∷ ps)) (passes.joins frame j p ps (part_of frame j c e one (p ∷ ps) a)) f.0 f.1 y.0 in
      (((r.1, r.0), tt), ap (λ rs. content (message (inner j nothing rs))) (append-nil (inside_of f.0)) ∙ ap (λ m. content (message m)) r.2))
      z

  -- lists of messages
  list_under : (frame : Frame) (i : Name) (b packed : Bool) (d : Single) (cs : List Content) → under_of old (part (nested frame i) b d) (many packed) (if_any cs) ≡ each_payload old (part (nested frame i) b d) (chain_of cs)
  list_under frame i b packed d [] = refl
  list_under frame i b true d (c ∷ cs) = refl
  list_under frame i b false d (c ∷ cs) = refl

  elements_again : (frame : Frame) (i j : Name) → Pair i j → (b c packed : Bool) (d e : Single) (ps : List Payload) → AllByRecursion (Fits (part (nested frame j) c e) (many packed)) ps
      → AllByRecursion IsSized (each_payload old (part (nested frame i) b d) (chain_of (flat_map (elements before (nested frame i)) ps)))
      → AllByRecursion (Fits (part (nested frame j) c e) (many packed)) (each_payload old (part (nested frame i) b d) (chain_of (flat_map (elements before (nested frame i)) ps)))
      × (flat_map (elements inner (nested frame j)) (each_payload old (part (nested frame i) b d) (chain_of (flat_map (elements before (nested frame i)) ps))) ≡ flat_map (elements inner (nested frame j)) ps)
  elements_again frame i j pair b c packed d e [] a z = (tt, refl)
  elements_again frame i j pair b c packed d e (p ∷ ps) a z =
      let f = framed frame i (written old i (before i nothing (inside_of p))) in
      let rest = each_payload old (part (nested frame i) b d) (chain_of (flat_map (elements before (nested frame i)) ps)) in
      let opened : accept frame j p = elim a.0.1 [ inl h ↦ h | inr h ↦ absurd h ] in
      subst (λ qs. AllByRecursion IsSized (qs ++ rest) → AllByRecursion (Fits (part (nested frame j) c e) (many packed)) (qs ++ rest) × (flat_map (elements inner (nested frame j)) (qs ++ rest) ≡ flat_map (elements inner (nested frame j)) (p ∷ ps))) (sym f.1)
      (λ y.
      let r = passes.again frame i j pair (inside_of p) (passes.opens frame j p opened) f.0 f.1 y.0 in
      let later = elements_again frame i j pair b c packed d e ps a.1 y.1 in
      (((r.1, inl r.0), later.0), ap (λ m. message m ∷ flat_map (elements inner (nested frame j)) rest) r.2 ∙ ap (λ cs. message (inner j nothing (inside_of p)) ∷ cs) later.1))
      z

  list_passed : (frame : Frame) (i j : Name) → Pair i j → (b c packed : Bool) (d e : Single) (ps : List Payload) → AllByRecursion (Fits (part (nested frame j) c e) (many packed)) ps → IsPassed (part (nested frame i) b d) (part (nested frame j) c e) (many packed) ps
  list_passed frame i j pair b c packed d e ps a z =
      let same = list_under frame i b packed d (flat_map (elements before (nested frame i)) ps) in
      let r = elements_again frame i j pair b c packed d e ps a (subst (AllByRecursion IsSized) same z) in
      (subst (AllByRecursion (Fits (part (nested frame j) c e) (many packed))) (sym same) r.0, ap (λ qs. if_any (flat_map (elements inner (nested frame j)) qs)) same ∙ ap if_any r.1)

  -- maps of messages
  pub record IsSameEntry (key : Key) (i j : Name) (e f : Single × Content) : Type 0 where
    pub key_same : e.0 ≡ f.0
    pub suits : Suits key.kind e.0
    pub inside : List (ℕ × Payload)
    pub accepted : lower j inside
    pub first : e.1 ≡ message (before i nothing inside)
    pub second : f.1 ≡ message (inner j nothing inside)

  abbrev AreSame : Key → Name → Name → List (Single × Content) → List (Single × Content) → Type 0
  AreSame key i j [] [] = Unit {0}
  AreSame key i j (e ∷ es) (f ∷ fs) = IsSameEntry key i j e f × AreSame key i j es fs
  AreSame key i j _ _ = ⊥

  put_same : (key : Key) (i j : Name) (e f : Single × Content) (es fs : List (Single × Content)) → IsSameEntry key i j e f → AreSame key i j es fs → AreSame key i j (put e.0 e.1 es) (put f.0 f.1 fs)
  put_same key i j e f [] [] s h = (s, tt)
  put_same key i j e f [] (y ∷ fs) s h = absurd h
  put_same key i j e f (x ∷ es) [] s h = absurd h
  put_same key i j e f (x ∷ es) (y ∷ fs) s h =
      let equal : same e.0 x.0 ≡ same f.0 y.0 = ap (λ a. same a x.0) s.key_same ∙ ap (same f.0) h.0.key_same in
      let lesser : below e.0 x.0 ≡ below f.0 y.0 = ap (λ a. below a x.0) s.key_same ∙ ap (below f.0) h.0.key_same in
      subst (λ t. AreSame key i j (put e.0 e.1 (x ∷ es)) (cond t (f ∷ fs) (cond (below f.0 y.0) (f ∷ y ∷ fs) (y ∷ put f.0 f.1 fs)))) equal
      (subst (λ t. AreSame key i j (put e.0 e.1 (x ∷ es)) (cond (same e.0 x.0) (f ∷ fs) (cond t (f ∷ y ∷ fs) (y ∷ put f.0 f.1 fs)))) lesser
      (by (put_same key i j e f es fs s h.1) (same e.0 x.0) (below e.0 x.0))) where
        by : AreSame key i j (put e.0 e.1 es) (put f.0 f.1 fs) → (t u : Bool) → AreSame key i j (cond t (e ∷ es) (cond u (e ∷ x ∷ es) (x ∷ put e.0 e.1 es))) (cond t (f ∷ fs) (cond u (f ∷ y ∷ fs) (y ∷ put f.0 f.1 fs)))
        by later true u = (s, h.1)
        by later false true = (s, h)
        by later false false = (h.0, later)

  put_all_same : (key : Key) (i j : Name) (es fs more others : List (Single × Content)) → AreSame key i j es fs → AreSame key i j more others → AreSame key i j (put_all es more) (put_all fs others)
  put_all_same key i j es fs [] [] h k = h
  put_all_same key i j es fs [] (y ∷ others) h k = absurd k
  put_all_same key i j es fs (x ∷ more) [] h k = absurd k
  put_all_same key i j es fs (x ∷ more) (y ∷ others) h k = put_all_same key i j (put x.0 x.1 es) (put y.0 y.1 fs) more others (put_same key i j x y es fs k.0 h) k.1

  joined_lower : (frame : Frame) (j : Name) (ps : List Payload) → 0 < levels → AllByRecursion (accept frame j) ps → lower j (joined ps)
  joined_lower frame j [] some a = passes.empties j some
  joined_lower frame j (p ∷ ps) some a = passes.joins frame j p ps a

  entry_same : (key : Key) (frame : Frame) (i j : Name) (b c : Bool) (d e : Single) (p : Payload) → Suits key.kind key.default → AcceptsEntry accept levels key (part (nested frame j) c e) p
      → IsSameEntry key i j (entry before key (part (nested frame i) b d) p) (entry inner key (part (nested frame j) c e) p)
  entry_same key frame i j b c d e (delimited body) s a = record {
    key_same = refl;
    suits = last_suits accept inner typed levels keeps key.kind key.default (payloads 1 (inside body)) s (all_payloads (AcceptsEntryRecord accept key (part (nested frame j) c e)) 1 (inside body) a.2);
    inside = joined (payloads 2 (inside body));
    accepted = joined_lower frame j (payloads 2 (inside body)) a.0 (all_payloads (AcceptsEntryRecord accept key (part (nested frame j) c e)) 2 (inside body) a.2);
    first = refl;
    second = refl;
  }
  entry_same key frame i j b c d e p s a = absurd a

  entries_same : (key : Key) (frame : Frame) (i j : Name) (b c : Bool) (d e : Single) (ps : List Payload) → Suits key.kind key.default → AllByRecursion (AcceptsEntry accept levels key (part (nested frame j) c e)) ps
      → AreSame key i j (map (entry before key (part (nested frame i) b d)) ps) (map (entry inner key (part (nested frame j) c e)) ps)
  entries_same key frame i j b c d e [] s a = tt
  entries_same key frame i j b c d e (p ∷ ps) s a = (entry_same key frame i j b c d e p s a.0, entries_same key frame i j b c d e ps s a.1)

  map_under : (frame : Frame) (i : Name) (b : Bool) (d : Single) (key : Key) (es : List (Single × Content)) → under_of old (part (nested frame i) b d) (keyed key) (if_some es) ≡ entry_payloads old key (part (nested frame i) b d) (entries_of es)
  map_under frame i b d key [] = refl
  map_under frame i b d key (e ∷ es) = refl

  -- the message of an entry, written and read
  value_again : (key : Key) (frame : Frame) (i j : Name) → Pair i j → (b c : Bool) (d e : Single) (x y : Single × Content) → IsSameEntry key i j x y
      → ValueBack new accept inner typed levels each key (part (nested frame j) c e) y.1 (unless_default b d x.1 (payloads_in old (part (nested frame i) b d) one x.1))
  value_again key frame i j pair b c d e x y s =
      let f = framed frame i (written old i (before i nothing s.inside)) in
      subst (λ o. ValueBack new accept inner typed levels each key (part (nested frame j) c e) y.1 (unless_default b d o (payloads_in old (part (nested frame i) b d) one o))) (sym s.first)
      (subst (ValueBack new accept inner typed levels each key (part (nested frame j) c e) y.1) (sym f.1) (λ z.
      let r = passes.again frame i j pair s.inside s.accepted f.0 f.1 z.0 in
      (((omega arith, omega arith, r.1, r.0), tt), ap (λ rs. message (inner j nothing rs)) (append-nil (inside_of f.0)) ∙ ap message r.2 ∙ sym s.second)))

  each_again : (key : Key) (frame : Frame) (i j : Name) → Pair i j → (b c : Bool) (d e : Single) (es fs : List (Single × Content)) → AreSame key i j es fs → AllByRecursion IsSized (entry_payloads old key (part (nested frame i) b d) (entries_of es))
      → AllByRecursion (Fits (part (nested frame j) c e) (keyed key)) (entry_payloads old key (part (nested frame i) b d) (entries_of es)) × (map (entry inner key (part (nested frame j) c e)) (entry_payloads old key (part (nested frame i) b d) (entries_of es)) ≡ fs)
  each_again key frame i j pair b c d e [] [] h z = (tt, refl)
  each_again key frame i j pair b c d e [] (y ∷ fs) h z = absurd h
  each_again key frame i j pair b c d e (x ∷ es) [] h z = absurd h
  each_again key frame i j pair b c d e (x ∷ es) (y ∷ fs) h z =
      let s = h.0 in
      let here = entry_parts new accept inner typed levels each key (part (nested frame j) c e) x.0 y.1
      (unless_default key.presence key.default (single x.0) (written_as key.kind x.0)) (unless_default b d x.1 (payloads_in old (part (nested frame i) b d) one x.1))
      (subst (IsOf typed (nested frame j)) (sym s.second) (passes.suits j s.inside s.accepted))
      (key_back new accept inner typed levels each key (part (nested frame j) c e) x.0 s.suits)
      (value_again key frame i j pair b c d e x y s) z.0 in
      let later = each_again key frame i j pair b c d e es fs h.1 z.1 in
      (((z.0, here.0), later.0), ap (λ o. o ∷ map (entry inner key (part (nested frame j) c e)) (entry_payloads old key (part (nested frame i) b d) (entries_of es))) (here.1 ∙ ap (λ (a : Single). (a, y.1)) s.key_same) ∙ ap (λ os. y ∷ os) later.1)

  map_passed : (frame : Frame) (i j : Name) → Pair i j → (b c : Bool) (d e : Single) (key : Key) (ps : List Payload) → Suits key.kind key.default → AllByRecursion (Fits (part (nested frame j) c e) (keyed key)) ps
      → IsPassed (part (nested frame i) b d) (part (nested frame j) c e) (keyed key) ps
  map_passed frame i j pair b c d e key ps s a z =
      let them = part (nested frame j) c e in
      let es = map (entry before key (part (nested frame i) b d)) ps in
      let fs = map (entry inner key them) ps in
      let accepted = part_of frame j c e (keyed key) ps a in
      let under = map_under frame i b d key (put_all [] es) in
      let r = each_again key frame i j pair b c d e (put_all [] es) (put_all [] fs) (put_all_same key i j [] [] es fs tt (entries_same key frame i j b c d e ps s accepted)) (subst (AllByRecursion IsSized) under z) in
      let ordered = put_all_map typed key them [] fs (tt, tt) (all_entries accept inner typed levels keeps key them ps s tt accepted) in (
        subst (AllByRecursion (Fits them (keyed key))) (sym under) r.0,
        ap (λ qs. if_some (put_all [] (map (entry inner key them) qs))) under ∙ ap (λ os. if_some (put_all [] os)) r.1 ∙ ap if_some (put_in_order (put_all [] fs) ordered.1),
      )

  nested_passed : (frame : Frame) (i j : Name) → Pair i j → (b c : Bool) (d e : Single) (l : Label) → HasEntryDefaults (part (nested frame j) c e) l → (ps : List Payload) → AllByRecursion (Fits (part (nested frame j) c e) l) ps → IsPassed (part (nested frame i) b d) (part (nested frame j) c e) l ps
  nested_passed frame i j pair b c d e one t ps a = message_passed frame i j pair b c d e ps a
  nested_passed frame i j pair b c d e (many packed) t ps a = list_passed frame i j pair b c packed d e ps a
  nested_passed frame i j pair b c d e (keyed key) t ps a = map_passed frame i j pair b c d e key ps t.0 a

  kinds_passed : (k o : Kind) (b c : Bool) (d e : Single) (l : Label) → AreKinds Pair k o → b ≡ c → d ≡ e → HasEntryDefaults (part o c e) l → (ps : List Payload) → AllByRecursion (Fits (part o c e) l) ps → IsPassed (part k b d) (part o c e) l ps
  kinds_passed (scalar k) (scalar o) b c d e l h x y t ps a =
      let alike : part (scalar o) c e ≡ part (scalar k) b d = ap (λ k. part (scalar k) c e) (sym h) ∙ ap (λ b. part (scalar k) b e) (sym x) ∙ ap (part (scalar k) b) (sym y) in
      subst (λ it. IsPassed it (part (scalar o) c e) l ps) alike (scalar_passed o c e l ps t a)
  kinds_passed (nested f i) (nested g j) b c d e l h x y t ps a =
      subst (λ f. IsPassed (part (nested f i) b d) (part (nested g j) c e) l ps) (sym h.0) (nested_passed g i j h.1 b c d e l t ps a)
  kinds_passed k o b c d e l h x y t ps a = absurd h

  abbrev Takes : Option Field → Payload → Type 0
  Takes q p = FitsPayload levels p × AcceptsIn accept levels q p

  -- what is held under a number
  pub held_passed : (o q : Option Field) → AnswersTo Pair o q → HasDefaults q → (ps : List Payload) → AllByRecursion (Takes q) ps → AllByRecursion IsSized (payloads_under old o (held before o absent ps))
      → AllByRecursion (Takes q) (payloads_under old o (held before o absent ps)) × (held inner q absent (payloads_under old o (held before o absent ps)) ≡ held inner q absent ps)
  held_passed None q h t ps a z = (a, refl)
  held_passed (Some f) None h t ps a z = absurd h
  held_passed (Some f) (Some g) h t ps a z =
      let under = under_is old f (held_by before f.part f.label absent ps) in
      let r = subst (λ l. AllByRecursion IsSized (under_of old f.part l (held_by before f.part l absent ps))
      → AllByRecursion (Takes (Some g)) (under_of old f.part l (held_by before f.part l absent ps)) × (held inner (Some g) absent (under_of old f.part l (held_by before f.part l absent ps)) ≡ held inner (Some g) absent ps)) (sym h.label)
      (kinds_passed f.part.kind g.part.kind f.part.presence g.part.presence f.part.default g.part.default g.label h.kind h.presence h.default t ps a)
      (subst (AllByRecursion IsSized) under z) in
      (subst (AllByRecursion (Takes (Some g))) (sym under) r.0, ap (held inner (Some g) absent) under ∙ r.1)
