-- What accepted records mean suits the type.
use Rattle.std.proofs.Common.{◌≡◌, ◌⊎◌, inl, inr, ℕ, ◌<◌, ◌||◌, not, Bool, true, false, cond, List, [], ◌∷◌, ◌++◌, map, Option, Some, None, refl, sym, ap, ◌∙◌, subst, append-nil}
use Rattle.std.specs.List.{flat_map, AllByRecursion}
use Rattle.reflect_wire.specs.Records.{Payload, varint, fixed64, delimited, fixed32, wire_of}
use Rattle.reflect_wire.specs.Written.{FitsPayload}
use Rattle.protobuf_model.specs.Values.{Single, Content, single, message, list, dictionary, more_contents, more_entries, Held, content, records, Message, absent, nothing}
use Rattle.protobuf_model.specs.Types.{Name, Scalar, Frame, Kind, scalar, nested, Part, Key, Label, one, many, keyed, Field}
use Rattle.protobuf_model.specs.Types as kinds
use Rattle.protobuf_model.specs.Scalars.{meant, packs, wire_type, same, Suits}
use Rattle.protobuf_model.specs.Keys.{below, put, Ascend}
use Rattle.protobuf_model.specs.Reader.{inside, inside_of, row}
use Rattle.protobuf_model.specs.Meaning.{payloads, settle, last_set, last_or, message_in, joined, taken, packed_or_one, elements, items, if_any, entry_value, entry, pairs, if_some, put_all, held_by, kept, held}
use Rattle.protobuf_model.specs.Accepts.{Acceptable, IsScalar, AcceptsPart, IsPacked, AcceptsEntryRecord, HasLevel, AcceptsEntry, AcceptsField, AcceptsIn}
use Rattle.protobuf_model.specs.Typed.{IsOf, IsSet, IsEntryOf, IsFieldOf, IsHeldOf, HasDefault, HasEntryDefaults, HasDefaults}
use Rattle.protobuf_model.proofs.Pieces.{Inner, listed, paired}
use Rattle.protobuf_model.proofs.Arranged.{all_append, all_payloads}
use Rattle.protobuf_model.proofs.KeyOrder.{same_true, below_through, below_either}
use Rattle.protobuf_model.proofs.Putting.{plain_one}
use Rattle.protobuf_model.proofs.Lists.{all_map, chained}
use Rattle.protobuf_model.proofs.Maps.{entries_back}
use Rattle.protobuf_model.proofs.RoundTrip.{held_nothing}

-- a payload that means a value of a kind has the kind's form
form_of : (k : Scalar) (p : Payload) (v : Single) → meant k p ≡ v ∷ [] → wire_of p ≡ wire_type k
form_of kinds.int32 (varint n) v e = refl
form_of kinds.int64 (varint n) v e = refl
form_of kinds.uint32 (varint n) v e = refl
form_of kinds.uint64 (varint n) v e = refl
form_of kinds.sint32 (varint n) v e = refl
form_of kinds.sint64 (varint n) v e = refl
form_of kinds.bool (varint n) v e = refl
form_of kinds.enumeration (varint n) v e = refl
form_of kinds.fixed32 (fixed32 n) v e = refl
form_of kinds.sfixed32 (fixed32 n) v e = refl
form_of kinds.fixed64 (fixed64 n) v e = refl
form_of kinds.sfixed64 (fixed64 n) v e = refl
form_of kinds.string (delimited n) v e = refl
form_of kinds.bytes (delimited n) v e = refl
form_of k p v e = cc

-- entries of a map that is put into
pub all_put : (Q : Single × Content → Type 0) (k : Single) (c : Content) (es : List (Single × Content)) → Q (k, c) → AllByRecursion Q es → AllByRecursion Q (put k c es)
all_put Q k c [] q h = (q, tt)
all_put Q k c (e ∷ es) q h = by (all_put Q k c es q h.1) (same k e.0) (below k e.0) where
  by : AllByRecursion Q (put k c es) → (s b : Bool) → AllByRecursion Q (cond s ((k, c) ∷ es) (cond b ((k, c) ∷ e ∷ es) (e ∷ put k c es)))
  by later true b = (q, h.1)
  by later false true = (q, h)
  by later false false = (h.0, later)

all_through : (kind : Scalar) (k a : Single) (es : List (Single × Content)) → Suits kind k → Suits kind a → below k a ≡ true → AllByRecursion (λ f. Suits kind f.0) es → AllByRecursion (λ f. below a f.0 ≡ true) es → AllByRecursion (λ f. below k f.0 ≡ true) es
all_through kind k a [] s t e h b = tt
all_through kind k a (f ∷ es) s t e h b = (below_through kind k a f.0 s t h.0 e b.0, all_through kind k a es s t e h.1 b.1)

put_ascends : (kind : Scalar) (k : Single) (c : Content) (es : List (Single × Content)) → Suits kind k → AllByRecursion (λ f. Suits kind f.0) es → Ascend es → Ascend (put k c es)
put_ascends kind k c [] s h a = (tt, tt)
put_ascends kind k c (e ∷ es) s h a = by (put_ascends kind k c es s h.1 a.1) (same k e.0) refl (below k e.0) refl where
  by : Ascend (put k c es) → (t : Bool) → same k e.0 ≡ t → (u : Bool) → below k e.0 ≡ u → Ascend (cond t ((k, c) ∷ es) (cond u ((k, c) ∷ e ∷ es) (e ∷ put k c es)))
  by later true s' u b = (subst (λ x. AllByRecursion (λ f. below x f.0 ≡ true) es) (sym (same_true k e.0 s')) a.0, a.1)
  by later false s' true b = ((b, all_through kind k e.0 es s h.0 b h.1 a.0), a)
  by later false s' false b = (all_put (λ f. below e.0 f.0 ≡ true) k c es (below_either kind k e.0 s h.0 s' b) a.0, later)

abbrev pub IsMap : (Name → Message → Type 0) → Key → Part → List (Single × Content) → Type 0
IsMap typed key part es = AllByRecursion (IsEntryOf typed key part) es × Ascend es

pub put_all_map : (typed : Name → Message → Type 0) (key : Key) (part : Part) (es more : List (Single × Content)) → IsMap typed key part es → AllByRecursion (IsEntryOf typed key part) more → IsMap typed key part (put_all es more)
put_all_map typed key part es [] h k = h
put_all_map typed key part es (e ∷ more) h k =
    put_all_map typed key part (put e.0 e.1 es) more
    (all_put (IsEntryOf typed key part) e.0 e.1 es k.0 h.0, put_ascends key.kind e.0 e.1 es k.0.0 (all_map (IsEntryOf typed key part) (λ f. Suits key.kind f.0) es (λ f s. s.0) h.0) h.1)
    k.1

-- what messages one level down keep
pub record KeepsTyped (accept : Acceptable) (inner : Inner) (typed : Name → Message → Type 0) (levels : ℕ) : Type 0 where
  pub fresh : (j : Name) → 0 < levels → typed j nothing
  pub merged : (frame : Frame) (j : Name) (m : Message) (ps : List Payload) → typed j m → AllByRecursion (accept frame j) ps → typed j (inner j m (joined ps))
  pub deeper : (frame : Frame) (j : Name) (p : Payload) → accept frame j p → 0 < levels

module _ (accept : Acceptable) (inner : Inner) (typed : Name → Message → Type 0) (levels : ℕ) (keeps : KeepsTyped accept inner typed levels) where
  settled_typed : (part : Part) (k : Scalar) (v : Single) → Suits k v → (b : Bool) → (part.presence || not (same v part.default)) ≡ b → (P : Held → Type 0) → ((part.presence || not (same v part.default)) ≡ true → P (content (single v))) → P absent → P (cond b (content (single v)) absent)
  settled_typed part k v s true e P set unset = set e
  settled_typed part k v s false e P set unset = unset

  -- a single value
  abbrev IsOneOf : Part → Kind → Held → Type 0
  IsOneOf part k (records ps) = ps ≡ []
  IsOneOf part k (content c) = IsOf typed k c × IsSet part c

  scalar_typed : (part : Part) (k : Scalar) (h : Held) (ps : List Payload) → IsOneOf part (scalar k) h → AllByRecursion (IsScalar k) ps → IsOneOf part (scalar k) (last_set part h (flat_map (meant k) ps))
  scalar_typed part k h [] t a = t
  scalar_typed part k h (p ∷ ps) t a =
      subst (λ vs. IsOneOf part (scalar k) (last_set part h (vs ++ flat_map (meant k) ps))) (sym a.0.1)
      (scalar_typed part k (settle part a.0.0) ps
      (settled_typed part k a.0.0 a.0.2 (part.presence || not (same a.0.0 part.default)) refl (IsOneOf part (scalar k)) (λ e. (a.0.2, e)) refl)
      a.1)

  message_typed : (part : Part) (frame : Frame) (j : Name) (h : Held) → IsOneOf part (nested frame j) h → 0 < levels → typed j (message_in h)
  message_typed part frame j (records ps) t some = keeps.fresh j some
  message_typed part frame j (content (message m)) t some = t.0
  message_typed part frame j (content c) t some = absurd t.0

  taken_typed : (part : Part) (k : Kind) (h : Held) (ps : List Payload) → IsOneOf part k h → AllByRecursion (AcceptsPart accept k) ps → IsOneOf part k (taken inner part k h ps)
  taken_typed part (scalar k) h ps t a = scalar_typed part k h ps t a
  taken_typed part (nested frame j) h [] t a = t
  taken_typed part (nested frame j) h (p ∷ ps) t a = (keeps.merged frame j (message_in h) (p ∷ ps) (message_typed part frame j h t (keeps.deeper frame j p a.0)) a, tt)

  -- elements of a list
  meant_typed : (k : Scalar) (ps : List Payload) → AllByRecursion (IsScalar k) ps → AllByRecursion (IsOf typed (scalar k)) (map single (flat_map (meant k) ps))
  meant_typed k [] a = tt
  meant_typed k (p ∷ ps) a = subst (λ vs. AllByRecursion (IsOf typed (scalar k)) (map single (vs ++ flat_map (meant k) ps))) (sym a.0.1) (a.0.2, meant_typed k ps a.1)

  one_message : (frame : Frame) (j : Name) (p : Payload) → accept frame j p → typed j (inner j nothing (inside_of p))
  one_message frame j p a = subst (λ rs. typed j (inner j nothing rs)) (append-nil (inside_of p)) (keeps.merged frame j nothing (p ∷ []) (keeps.fresh j (keeps.deeper frame j p a)) (a, tt))

  packed_typed : (k : Scalar) (body : List ℕ) → packs k ≡ true → AllByRecursion (IsScalar k) (row (wire_type k) body) → AllByRecursion (IsOf typed (scalar k)) (map single (packed_or_one k (delimited body)))
  packed_typed k body t a = subst (λ b. AllByRecursion (IsOf typed (scalar k)) (map single (cond b (flat_map (meant k) (row (wire_type k) body)) (meant k (delimited body))))) (sym t) (meant_typed k (row (wire_type k) body) a)

  elements_typed : (k : Kind) (p : Payload) → AcceptsPart accept k p ⊎ IsPacked k p → AllByRecursion (IsOf typed k) (elements inner k p)
  elements_typed (scalar k) p (inl a) = subst (λ vs. AllByRecursion (IsOf typed (scalar k)) (map single vs)) (sym (plain_one k p (form_of k p a.0 a.1) ∙ a.1)) (a.2, tt)
  elements_typed (scalar k) (delimited body) (inr a) = packed_typed k body a.0 a.2
  elements_typed (scalar k) p (inr a) = absurd a
  elements_typed (nested frame j) p (inl a) = (one_message frame j p a, tt)
  elements_typed (nested frame j) p (inr a) = absurd a

  all_elements : (k : Kind) (ps : List Payload) → AllByRecursion (λ p. AcceptsPart accept k p ⊎ IsPacked k p) ps → AllByRecursion (IsOf typed k) (flat_map (elements inner k) ps)
  all_elements k [] a = tt
  all_elements k (p ∷ ps) a = all_append (IsOf typed k) (elements inner k p) (flat_map (elements inner k) ps) (elements_typed k p a.0) (all_elements k ps a.1)

  -- an entry
  pub last_suits : (k : Scalar) (d : Single) (ps : List Payload) → Suits k d → AllByRecursion (IsScalar k) ps → Suits k (last_or d (flat_map (meant k) ps))
  last_suits k d [] s a = s
  last_suits k d (p ∷ ps) s a = subst (λ vs. Suits k (last_or d (vs ++ flat_map (meant k) ps))) (sym a.0.1) (last_suits k a.0.0 ps a.0.2 a.1)

  entry_typed_by : (key : Key) (part : Part) (k : Kind) (ks vs : List Payload) → Suits key.kind key.default → HasDefault k part.default → HasLevel levels k → AllByRecursion (IsScalar key.kind) ks → AllByRecursion (AcceptsPart accept k) vs
      → Suits key.kind (last_or key.default (flat_map (meant key.kind) ks)) × IsOf typed k (entry_value inner part k vs)
  entry_typed_by key part (scalar k) ks vs s d l a b = (last_suits key.kind key.default ks s a, last_suits k part.default vs d b)
  entry_typed_by key part (nested frame j) ks vs s d l a b = (last_suits key.kind key.default ks s a, keeps.merged frame j nothing vs (keeps.fresh j l) b)

  entry_typed : (key : Key) (part : Part) (p : Payload) → Suits key.kind key.default → HasDefault part.kind part.default → AcceptsEntry accept levels key part p → IsEntryOf typed key part (entry inner key part p)
  entry_typed key part (delimited body) s d a =
      entry_typed_by key part part.kind (payloads 1 (inside body)) (payloads 2 (inside body)) s d a.0
      (all_payloads (AcceptsEntryRecord accept key part) 1 (inside body) a.2) (all_payloads (AcceptsEntryRecord accept key part) 2 (inside body) a.2)
  entry_typed key part p s d a = absurd a

  pub all_entries : (key : Key) (part : Part) (ps : List Payload) → Suits key.kind key.default → HasDefault part.kind part.default → AllByRecursion (AcceptsEntry accept levels key part) ps → AllByRecursion (IsEntryOf typed key part) (map (entry inner key part) ps)
  all_entries key part [] s d a = tt
  all_entries key part (p ∷ ps) s d a = (entry_typed key part p s d a.0, all_entries key part ps s d a.1)

  -- a field
  abbrev pub IsFieldHeld : Part → Label → Held → Type 0
  IsFieldHeld part l (records ps) = ps ≡ []
  IsFieldHeld part l (content c) = IsFieldOf typed part l c

  from_one : (part : Part) (h : Held) → IsFieldHeld part one h → IsOneOf part part.kind h
  from_one part (records ps) t = t
  from_one part (content c) t = t

  to_one : (part : Part) (h : Held) → IsOneOf part part.kind h → IsFieldHeld part one h
  to_one part (records ps) t = t
  to_one part (content c) t = t

  items_typed : (part : Part) (packed : Bool) (h : Held) → IsFieldHeld part (many packed) h → AllByRecursion (IsOf typed part.kind) (items h)
  items_typed part packed (records ps) t = tt
  items_typed part packed (content (list (more_contents c cs))) t = t
  items_typed part packed (content c) t = absurd t

  if_any_typed : (part : Part) (packed : Bool) (cs : List Content) → AllByRecursion (IsOf typed part.kind) cs → IsFieldHeld part (many packed) (if_any cs)
  if_any_typed part packed [] a = refl
  if_any_typed part packed (c ∷ cs) a = (a.0, subst (AllByRecursion (IsOf typed part.kind)) (sym (listed cs)) a.1)

  pairs_typed : (key : Key) (part : Part) (h : Held) → IsFieldHeld part (keyed key) h → IsMap typed key part (pairs h)
  pairs_typed key part (records ps) t = (tt, tt)
  pairs_typed key part (content (dictionary (more_entries k c es))) t = t
  pairs_typed key part (content c) t = absurd t

  if_some_typed : (key : Key) (part : Part) (es : List (Single × Content)) → IsMap typed key part es → IsFieldHeld part (keyed key) (if_some es)
  if_some_typed key part [] a = refl
  if_some_typed key part (e ∷ es) a = subst (IsMap typed key part) (sym (paired (e ∷ es))) a

  pub field_typed : (part : Part) (l : Label) (h : Held) (ps : List Payload) → HasEntryDefaults part l → IsFieldHeld part l h → AllByRecursion (AcceptsField accept levels part l) ps → IsFieldHeld part l (held_by inner part l h ps)
  field_typed part one h ps d t a = to_one part (taken inner part part.kind h ps) (taken_typed part part.kind h ps (from_one part h t) a)
  field_typed part (many packed) h ps d t a =
      if_any_typed part packed (items h ++ flat_map (elements inner part.kind) ps) (all_append (IsOf typed part.kind) (items h) (flat_map (elements inner part.kind) ps) (items_typed part packed h t) (all_elements part.kind ps a))
  field_typed part (keyed key) h ps d t a =
      if_some_typed key part (put_all (pairs h) (map (entry inner key part) ps)) (put_all_map typed key part (pairs h) (map (entry inner key part) ps) (pairs_typed key part h t) (all_entries key part ps d.0 d.1 a))

  from_held : (f : Field) (h : Held) → IsHeldOf typed levels (Some f) h → IsFieldHeld f.part f.label h
  from_held f (records ps) t = t
  from_held f (content c) t = t

  to_held : (f : Field) (h : Held) → IsFieldHeld f.part f.label h → IsHeldOf typed levels (Some f) h
  to_held f (records ps) t = t
  to_held f (content c) t = t

  kept_typed : (h : Held) → IsHeldOf typed levels None h → AllByRecursion (FitsPayload levels) (kept h)
  kept_typed (records ps) t = t
  kept_typed (content c) t = absurd t

  abbrev Fits : Option Field → Payload → Type 0
  Fits o p = FitsPayload levels p × AcceptsIn accept levels o p

  pub held_typed : (o : Option Field) (h : Held) (ps : List Payload) → HasDefaults o → IsHeldOf typed levels o h → AllByRecursion (Fits o) ps → IsHeldOf typed levels o (held inner o h ps)
  held_typed None h ps d t a = all_append (FitsPayload levels) (kept h) ps (kept_typed h t) (all_map (Fits None) (FitsPayload levels) ps (λ p f. f.0) a)
  held_typed (Some f) h ps d t a = to_held f (held_by inner f.part f.label h ps) (field_typed f.part f.label h ps d (from_held f h t) (all_map (Fits (Some f)) (AcceptsField accept levels f.part f.label) ps (λ p g. g.1) a))

  -- no records leave what is held
  one_kept : (part : Part) (k : Kind) (h : Held) → taken inner part k h [] ≡ h
  one_kept part (scalar k) h = refl
  one_kept part (nested frame j) h = refl

  list_kept : (part : Part) (packed : Bool) (h : Held) → IsFieldHeld part (many packed) h → if_any (items h) ≡ h
  list_kept part packed (records ps) t = ap records (sym t)
  list_kept part packed (content (list (more_contents c cs))) t = ap (λ ds. content (list (more_contents c ds))) (chained cs)
  list_kept part packed (content c) t = absurd t

  map_kept : (key : Key) (part : Part) (h : Held) → IsFieldHeld part (keyed key) h → if_some (pairs h) ≡ h
  map_kept key part (records ps) t = ap records (sym t)
  map_kept key part (content (dictionary (more_entries k c es))) t = ap (λ ds. content (dictionary (more_entries k c ds))) (entries_back es)
  map_kept key part (content c) t = absurd t

  field_kept : (part : Part) (l : Label) (h : Held) → IsFieldHeld part l h → held_by inner part l h [] ≡ h
  field_kept part one h t = one_kept part part.kind h
  field_kept part (many packed) h t = ap if_any (append-nil (items h)) ∙ list_kept part packed h t
  field_kept part (keyed key) h t = map_kept key part h t

  records_kept : (h : Held) → IsHeldOf typed levels None h → records (kept h ++ []) ≡ h
  records_kept (records ps) t = ap records (append-nil ps)
  records_kept (content c) t = absurd t

  pub held_kept : (o : Option Field) (h : Held) → IsHeldOf typed levels o h → held inner o h [] ≡ h
  held_kept None h t = records_kept h t
  held_kept (Some f) h t = field_kept f.part f.label h (from_held f h t)

  pub nothing_held : (o : Option Field) → held inner o absent [] ≡ absent
  nothing_held None = refl
  nothing_held (Some f) = held_nothing inner f.part f.label

  pub absent_typed : (o : Option Field) → IsHeldOf typed levels o absent
  absent_typed None = tt
  absent_typed (Some f) = refl
