-- Maps: the entries that they are written as are accepted and mean them.
use Rattle.std.proofs.Common.{◌≡◌, ◌⊎◌, inl, inr, ℕ, ◌<◌, ◌^◌, ◌||◌, not, Bool, true, false, cond, List, [], ◌∷◌, ◌++◌, map, refl, sym, ap, ◌∙◌, subst, append-nil, append_assoc, arith}
use Rattle.std.specs.List.{flat_map, AllByRecursion}
use Rattle.reflect_wire.specs.Records.{Payload, delimited, SpellsRecords}
use Rattle.reflect_wire.specs.Views.{records_of}
use Rattle.reflect_wire.specs.Encoding.{records_bytes}
use Rattle.reflect_wire.specs.Written.{FitsPayload, FitsRecords}
use Rattle.reflect_wire.proofs.Spelling.{records_spelled}
use Rattle.protobuf_model.specs.Values.{Single, Content, single, message, list, dictionary, Entries, no_entries, more_entries, content, Message, absent, pairs_of, entries_of}
use Rattle.protobuf_model.specs.Types.{Name, Kind, scalar, nested, Part, Key, one, keyed, Types}
use Rattle.protobuf_model.specs.Scalars.{meant, same, written_as, Suits}
use Rattle.protobuf_model.specs.Keys.{below, put, Ascend}
use Rattle.protobuf_model.specs.Reader.{inside}
use Rattle.protobuf_model.specs.Meaning.{payloads, last_or, entry_value, entry, if_some, put_all, held_by}
use Rattle.protobuf_model.specs.Accepts.{Acceptable, AcceptsEntryRecord, AcceptsEntry, AcceptsField, HasLevel}
use Rattle.protobuf_model.specs.Typed.{IsOf, IsEntryOf}
use Rattle.protobuf_model.specs.Bytes.{numbered, unless_default, payloads_in, entry_payloads}
use Rattle.protobuf_model.proofs.Pieces.{Inner}
use Rattle.protobuf_model.proofs.Arranged.{payloads-append, payloads-own, payloads-other, all_append}
use Rattle.protobuf_model.proofs.KeyOrder.{same_true, below_apart}
use Rattle.protobuf_model.proofs.Reading.{inside_written}
use Rattle.protobuf_model.proofs.Singles.{IsSized, IsWritten, value_written}
use Rattle.protobuf_model.proofs.Sizes.{all_sized}
use Rattle.protobuf_model.proofs.Putting.{AreBack, IsPut, put_content}

-- an entry behind all others is put last
put_last : (k : Single) (c : Content) (es : List (Single × Content)) → AllByRecursion (λ e. below e.0 k ≡ true) es → put k c es ≡ es ++ (k, c) ∷ []
put_last k c [] h = refl
put_last k c (e ∷ es) h =
    let a = below_apart e.0 k h.0 in
    ap (λ t. cond t ((k, c) ∷ es) (cond (below k e.0) ((k, c) ∷ e ∷ es) (e ∷ put k c es))) a.0
    ∙ ap (λ t. cond t ((k, c) ∷ e ∷ es) (e ∷ put k c es)) a.1
    ∙ ap (λ ds. e ∷ ds) (put_last k c es h.1)

abbrev AllBelow : List (Single × Content) → List (Single × Content) → Type 0
AllBelow done es = AllByRecursion (λ f. AllByRecursion (λ d. below d.0 f.0 ≡ true) done) es

all_below_more : (done : List (Single × Content)) (e : Single × Content) (es : List (Single × Content)) → AllBelow done es → AllByRecursion (λ f. below e.0 f.0 ≡ true) es → AllBelow (done ++ e ∷ []) es
all_below_more done e [] h k = tt
all_below_more done e (f ∷ es) h k = (all_append (λ d. below d.0 f.0 ≡ true) done (e ∷ []) h.0 (k.0, tt), all_below_more done e es h.1 k.1)

put_all_ascending : (done es : List (Single × Content)) → AllBelow done es → Ascend es → put_all done es ≡ done ++ es
put_all_ascending done [] h a = sym (append-nil done)
put_all_ascending done (e ∷ es) h a =
    ap (λ ds. put_all ds es) (put_last e.0 e.1 done h.0)
    ∙ put_all_ascending (done ++ e ∷ []) es (all_below_more done e es h.1 a.0) a.1
    ∙ append_assoc done (e ∷ []) es

none_below : (es : List (Single × Content)) → AllBelow [] es
none_below [] = tt
none_below (e ∷ es) = (tt, none_below es)

pub put_in_order : (es : List (Single × Content)) → Ascend es → put_all [] es ≡ es
put_in_order es a = put_all_ascending [] es (none_below es) a

pub entries_back : (es : Entries) → entries_of (pairs_of es) ≡ es
entries_back no_entries = refl
entries_back (more_entries k c es) = ap (more_entries k c) (entries_back es)

-- a part is there, or is the default
record IsLeft (b : Bool) (d : Single) (c : Content) (p : Payload) (ps : List Payload) : Type 0 where
  left : (ps ≡ p ∷ []) ⊎ ((ps ≡ []) × (c ≡ single d))

not_set : (b : Bool) (a d : Single) (ps : List Payload) → (cond (b || not (same a d)) ps [] ≡ ps) ⊎ ((cond (b || not (same a d)) ps [] ≡ []) × (a ≡ d))
not_set true a d ps = inl refl
not_set false a d ps = by (same a d) refl where
  by : (t : Bool) → same a d ≡ t → (cond (not (same a d)) ps [] ≡ ps) ⊎ ((cond (not (same a d)) ps [] ≡ []) × (a ≡ d))
  by true e = inr (ap (λ t. cond (not t) ps []) e, same_true a d e)
  by false e = inl (ap (λ t. cond (not t) ps []) e)

left_out : (b : Bool) (d : Single) (c : Content) (p : Payload) (ps : List Payload) → ps ≡ p ∷ [] → IsLeft b d c p (unless_default b d c ps)
left_out b d (single v) p ps e = record { left = elim (not_set b v d ps) [ inl h ↦ inl (h ∙ e) | inr h ↦ inr (h.0, ap single h.1) ] }
left_out b d (message m) p ps e = record { left = inl e }
left_out b d (list m) p ps e = record { left = inl e }
left_out b d (dictionary m) p ps e = record { left = inl e }

module _ (types : Types) (accept : Acceptable) (inner : Inner) (typed : Name → Message → Type 0) (levels : ℕ) (each : AreBack types accept inner typed levels) where
  abbrev pub IsRecord : Key → Part → ℕ × Payload → Type 0
  IsRecord key part r = (0 < r.0) × (r.0 < 2 ^ 29) × FitsPayload levels r.1 × AcceptsEntryRecord accept key part r

  -- the records of an entry, one or none of each number
  fit : (key : Key) (part : Part) (rs : List (ℕ × Payload)) → AllByRecursion (IsRecord key part) rs → FitsRecords levels (records_of rs)
  fit key part [] h = tt
  fit key part (r ∷ rs) h = (h.0.0, h.0.1, h.0.2, fit key part rs h.1)

  suit : (key : Key) (part : Part) (rs : List (ℕ × Payload)) → AllByRecursion (IsRecord key part) rs → AllByRecursion (AcceptsEntryRecord accept key part) rs
  suit key part [] h = tt
  suit key part (r ∷ rs) h = (h.0.3, suit key part rs h.1)

  has_level : (k : Kind) (c : Content) → IsOf typed k c → HasLevel levels k
  has_level (scalar k) c h = tt
  has_level (nested frame j) (message m) h = each.deeper j m h
  has_level (nested frame j) c h = absurd h

  abbrev pub EntryBack : Key → Part → Single → Content → List Payload → List Payload → Type 0
  EntryBack key part k c ks vs = IsSized (delimited (records_bytes (records_of (numbered 1 ks ++ numbered 2 vs))))
      → AcceptsEntry accept levels key part (delimited (records_bytes (records_of (numbered 1 ks ++ numbered 2 vs))))
      × (entry inner key part (delimited (records_bytes (records_of (numbered 1 ks ++ numbered 2 vs)))) ≡ (k, c))

  abbrev pub KeyBack : Key → Part → Single → List Payload → Type 0
  KeyBack key part k ks = (AllByRecursion IsSized ks → AllByRecursion (IsRecord key part) (numbered 1 ks)) × (last_or key.default (flat_map (meant key.kind) ks) ≡ k)

  abbrev pub ValueBack : Key → Part → Content → List Payload → Type 0
  ValueBack key part c vs = AllByRecursion IsSized vs → AllByRecursion (IsRecord key part) (numbered 2 vs) × (entry_value inner part part.kind vs ≡ c)

  pub key_back : (key : Key) (part : Part) (k : Single) → Suits key.kind k → KeyBack key part k (unless_default key.presence key.default (single k) (written_as key.kind k))
  key_back key part k s = by (value_written key.kind k s) where
    by : IsWritten key.kind k → KeyBack key part k (unless_default key.presence key.default (single k) (written_as key.kind k))
    by w = elim (left_out key.presence key.default (single k) w.payload (written_as key.kind k) w.alone).left [
      | inl e ↦ subst (KeyBack key part k) (sym e) ((λ z. ((omega arith, omega arith, w.fits levels z.0, (k, w.means, s)), tt)), ap (last_or key.default) (append-nil (meant key.kind w.payload) ∙ w.means))
      | inr e ↦ subst (KeyBack key part k) (sym e.0) ((λ z. tt), cc (e.1))
    ]

  none_value : (part : Part) (k : Kind) (c : Content) → IsOf typed k c → c ≡ single part.default → entry_value inner part k [] ≡ c
  none_value part (scalar k) c h e = sym e
  none_value part (nested frame j) (message m) h e = absurd (cc)
  none_value part (nested frame j) c h e = absurd h

  value_back : (key : Key) (part : Part) (c : Content) → IsOf typed part.kind c → ValueBack key part c (unless_default part.presence part.default c (payloads_in types part one c))
  value_back key part c h = by (put_content types accept inner typed levels each part c h) where
    by : IsPut types accept inner typed levels part c → ValueBack key part c (unless_default part.presence part.default c (payloads_in types part one c))
    by u = elim (left_out part.presence part.default c u.payload (payloads_in types part one c) u.alone).left [
      | inl e ↦ subst (ValueBack key part c) (sym e) (λ z. (((omega arith, omega arith, (u.accepted z.0).1, (u.accepted z.0).0), tt), u.value z.0))
      | inr e ↦ subst (ValueBack key part c) (sym e.0) (λ z. (tt, none_value part part.kind c h e.1))
    ]

  first_all : {X : Type 0} (P : X → Type 0) (a b : List X) → AllByRecursion P (a ++ b) → AllByRecursion P a × AllByRecursion P b
  first_all P [] b h = (tt, h)
  first_all P (x ∷ a) b h = let rest = first_all P a b h.1 in ((h.0, rest.0), rest.1)

  sized_payloads : (n : ℕ) (ps : List Payload) → AllByRecursion (λ r. IsSized r.1) (numbered n ps) → AllByRecursion IsSized ps
  sized_payloads n [] h = tt
  sized_payloads n (p ∷ ps) h = (h.0, sized_payloads n ps h.1)

  entry_is : (key : Key) (part : Part) (k : Single) (c : Content) (rs : List (ℕ × Payload)) (ks vs : List Payload) → payloads 1 rs ≡ ks → payloads 2 rs ≡ vs
      → last_or key.default (flat_map (meant key.kind) ks) ≡ k → entry_value inner part part.kind vs ≡ c → ◌≡◌ {A = Single × Content} (last_or key.default (flat_map (meant key.kind) (payloads 1 rs)), entry_value inner part part.kind (payloads 2 rs)) (k, c)
  entry_is key part k c rs ks vs f s x y =
      ap (λ (a : Single). (a, entry_value inner part part.kind (payloads 2 rs))) (ap (λ ps. last_or key.default (flat_map (meant key.kind) ps)) f ∙ x)
      ∙ ap (λ (d : Content). (k, d)) (ap (entry_value inner part part.kind) s ∙ y)

  pub entry_parts : (key : Key) (part : Part) (k : Single) (c : Content) (ks vs : List Payload) → IsOf typed part.kind c → KeyBack key part k ks → ValueBack key part c vs → EntryBack key part k c ks vs
  entry_parts key part k c ks vs h a b z =
      let rs = numbered 1 ks ++ numbered 2 vs in
      let sizes = first_all (λ r. IsSized r.1) (numbered 1 ks) (numbered 2 vs) (all_sized rs z) in
      let value = b (sized_payloads 2 vs sizes.1) in
      let all : AllByRecursion (IsRecord key part) rs = all_append (IsRecord key part) (numbered 1 ks) (numbered 2 vs) (a.0 (sized_payloads 1 ks sizes.0)) value.0 in
      let fits = fit key part rs all in
      let read : inside (records_bytes (records_of rs)) ≡ rs = inside_written levels rs fits in
      let firsts : payloads 1 rs ≡ ks = payloads-append 1 (numbered 1 ks) (numbered 2 vs) ∙ ap (λ ps. ps ++ payloads 1 (numbered 2 vs)) (payloads-own 1 ks) ∙ ap (λ ps. ks ++ ps) (payloads-other 1 2 vs (λ e. omega arith)) ∙ append-nil ks in
      let seconds : payloads 2 rs ≡ vs = payloads-append 2 (numbered 1 ks) (numbered 2 vs) ∙ ap (λ ps. ps ++ payloads 2 (numbered 2 vs)) (payloads-other 2 1 ks (λ e. omega arith)) ∙ payloads-own 2 vs in (
        (
          has_level part.kind c h,
          subst (λ rs'. SpellsRecords levels (records_bytes (records_of rs)) (records_of rs')) (sym read) (records_spelled levels (records_of rs) fits),
          subst (AllByRecursion (AcceptsEntryRecord accept key part)) (sym read) (suit key part rs all),
        ),
        entry_is key part k c (inside (records_bytes (records_of rs))) ks vs (ap (payloads 1) read ∙ firsts) (ap (payloads 2) read ∙ seconds) a.1 value.1,
      )

  entry_back : (key : Key) (part : Part) (k : Single) (c : Content) → IsEntryOf typed key part (k, c)
      → EntryBack key part k c (unless_default key.presence key.default (single k) (written_as key.kind k)) (unless_default part.presence part.default c (payloads_in types part one c))
  entry_back key part k c h = entry_parts key part k c _ _ h.1 (key_back key part k h.0) (value_back key part c h.1)

  abbrev AreEntries : Key → Part → List (Single × Content) → List Payload → Type 0
  AreEntries key part es ps = AllByRecursion IsSized ps → AllByRecursion (λ p. FitsPayload levels p × AcceptsEntry accept levels key part p) ps × (map (entry inner key part) ps ≡ es)

  each_entry : (key : Key) (part : Part) (es : Entries) → AllByRecursion (IsEntryOf typed key part) (pairs_of es) → AreEntries key part (pairs_of es) (entry_payloads types key part es)
  each_entry key part no_entries h = λ z. (tt, refl)
  each_entry key part (more_entries k c es) h = λ z.
      let here = entry_back key part k c h.0 z.0 in
      let later = each_entry key part es h.1 z.1 in
      (((z.0, here.0), later.0), ap (λ e. e ∷ map (entry inner key part) (entry_payloads types key part es)) here.1 ∙ ap (λ ds. (k, c) ∷ ds) later.1)

  pub map_taken : (key : Key) (part : Part) (k : Single) (c : Content) (es : Entries) → AllByRecursion (IsEntryOf typed key part) (pairs_of (more_entries k c es)) → Ascend (pairs_of (more_entries k c es))
      → AllByRecursion IsSized (payloads_in types part (keyed key) (dictionary (more_entries k c es)))
      → AllByRecursion (λ p. FitsPayload levels p × AcceptsField accept levels part (keyed key) p) (payloads_in types part (keyed key) (dictionary (more_entries k c es)))
      × (held_by inner part (keyed key) absent (payloads_in types part (keyed key) (dictionary (more_entries k c es))) ≡ content (dictionary (more_entries k c es)))
  map_taken key part k c es h a z =
      let all = each_entry key part (more_entries k c es) h z in
      (all.0, ap (λ ds. if_some (put_all [] ds)) all.1 ∙ ap if_some (put_in_order ((k, c) ∷ pairs_of es) a) ∙ ap (λ ds. content (dictionary (more_entries k c ds))) (entries_back es))
