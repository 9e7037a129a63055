-- A field that is given a value: its type knows all of the message, as before.
use Rattle.std.proofs.Common.{◌≡◌, ℕ, ◌||◌, not, Bool, true, false, cond, List, [], ◌∷◌, ◌++◌, map, None, Some, refl, sym, subst}
use Rattle.std.specs.List.{AllByRecursion}
use Rattle.std.proofs.lemmas.Option.{none-some, same_Some}
use Rattle.protobuf_model.specs.Values.{Single, Content, single, message, list, dictionary, Contents, no_contents, more_contents, Entries, no_entries, more_entries, Held, content, Message, absent, list_of, chain_of, pairs_of, entries_of}
use Rattle.protobuf_model.specs.Types.{Name, Kind, Part, Label, one, many, keyed, Field, Types}
use Rattle.protobuf_model.specs.Scalars.{same}
use Rattle.protobuf_model.specs.Meaning.{items, if_any, pairs, if_some, put_all}
use Rattle.protobuf_model.proofs.Arranged.{all_append}
use Rattle.text_model.specs.Value.{entry_of, is_set, has_rival, assign, settled, add_all, add_one}
use Rattle.text_laws.proofs.Assigned.{assigned}
use Rattle.text_laws.proofs.EntriesSuit.{all_put_all}
use Rattle.known_messages.specs.KnownMessages.{KnowsContent, KnowsContents, KnowsEntries, KnowsHeld, KnowsAll}

module _ (types : Types) where
  -- ---- lists and maps

  abbrev IsKnownEntry : Kind → Single × Content → Type 0
  IsKnownEntry k e = KnowsContent types k e.1

  listed : (k : Kind) (cs : Contents) → KnowsContents types k cs → AllByRecursion (KnowsContent types k) (list_of cs)
  listed k no_contents h = tt
  listed k (more_contents c cs) h = (h.0, listed k cs h.1)

  chained : (k : Kind) (cs : List Content) → AllByRecursion (KnowsContent types k) cs → KnowsContents types k (chain_of cs)
  chained k [] h = tt
  chained k (c ∷ cs) h = (h.0, chained k cs h.1)

  paired : (k : Kind) (es : Entries) → KnowsEntries types k es → AllByRecursion (IsKnownEntry k) (pairs_of es)
  paired k no_entries h = tt
  paired k (more_entries key c es) h = (h.0, paired k es h.1)

  entered : (k : Kind) (es : List (Single × Content)) → AllByRecursion (IsKnownEntry k) es → KnowsEntries types k (entries_of es)
  entered k [] h = tt
  entered k (e ∷ es) h = (h.0, entered k es h.1)

  items_known : (f : Field) (h : Held) → KnowsHeld types (Some f) h → AllByRecursion (KnowsContent types f.part.kind) (items h)
  items_known f (content (list cs)) k = listed f.part.kind cs k
  items_known f h k = tt

  if_any_known : (f : Field) (cs : List Content) → AllByRecursion (KnowsContent types f.part.kind) cs → KnowsHeld types (Some f) (if_any cs)
  if_any_known f [] h = refl
  if_any_known f (c ∷ cs) h = chained f.part.kind (c ∷ cs) h

  pairs_known : (f : Field) (h : Held) → KnowsHeld types (Some f) h → AllByRecursion (IsKnownEntry f.part.kind) (pairs h)
  pairs_known f (content (dictionary es)) k = paired f.part.kind es k
  pairs_known f h k = tt

  if_some_known : (f : Field) (es : List (Single × Content)) → AllByRecursion (IsKnownEntry f.part.kind) es → KnowsHeld types (Some f) (if_some es)
  if_some_known f [] h = refl
  if_some_known f (e ∷ es) h = entered f.part.kind (e ∷ es) h

  pub settled_known : (f : Field) (c : Content) → KnowsContent types f.part.kind c → KnowsHeld types (Some f) (settled f.part c)
  settled_known f (single v) h = by (f.part.presence || not (same v f.part.default)) where
    by : (b : Bool) → KnowsHeld types (Some f) (cond b (content (single v)) absent)
    by true = tt
    by false = refl
  settled_known f (message m) h = h
  settled_known f (list cs) h = h
  settled_known f (dictionary es) h = h

  -- ---- what is added to a field: to a map a message that is an entry

  abbrev pub IsKnownIn : Part → Label → Content → Type 0
  IsKnownIn part (keyed key) c = KnowsContent types part.kind (entry_of key part c).1
  IsKnownIn part _ c = KnowsContent types part.kind c

  module _ (t : Name) (n : ℕ) (f : Field) (has : types t n ≡ Some f) (m x : Message) (all : KnowsAll types t m) where
    before : KnowsHeld types (Some f) (m n)
    before = subst (λ o. KnowsHeld types o (m n)) has (all n)

    pub set_known : (h : Held) → KnowsHeld types (Some f) h → Some (assign (types t) n h m) ≡ Some x → KnowsAll types t x
    set_known h k e =
        subst (KnowsAll types t) (same_Some (assign (types t) n h m) x e)
        (assigned (types t) n h m (λ q y. KnowsHeld types (types t q) y) (subst (λ o. KnowsHeld types o h) (sym has) k) (λ q. refl) all)

    pub add_all_known : (l : Label) (cs : List Content) → AllByRecursion (IsKnownIn f.part l) cs → add_all (types t) n f.part l m cs ≡ Some x
        → KnowsAll types t x
    add_all_known one cs h e = absurd (none-some x e)
    add_all_known (many packed) cs h e =
        set_known (if_any (items (m n) ++ cs)) (if_any_known f (items (m n) ++ cs) (all_append (KnowsContent types f.part.kind) (items (m n)) cs (items_known f (m n) before) h)) e
    add_all_known (keyed key) cs h e =
        let es = map (entry_of key f.part) cs in
        set_known (if_some (put_all (pairs (m n)) es)) (if_some_known f (put_all (pairs (m n)) es) (all_put_all (IsKnownEntry f.part.kind) (pairs (m n)) es (pairs_known f (m n) before) (entries cs h))) e where
          entries : (cs : List Content) → AllByRecursion (IsKnownIn f.part (keyed key)) cs
              → AllByRecursion (IsKnownEntry f.part.kind) (map (entry_of key f.part) cs)
          entries [] h = tt
          entries (c ∷ cs) h = (h.0, entries cs h.1)

    pub add_one_known : (l : Label) (c : Content) → IsKnownIn f.part l c → add_one (types t) n f.part l m c ≡ Some x → KnowsAll types t x
    add_one_known one c h e = by (is_set (m n) || has_rival (types t) n m) e where
      by : (b : Bool) → cond b None (Some (assign (types t) n (settled f.part c) m)) ≡ Some x → KnowsAll types t x
      by true k = absurd (none-some x k)
      by false k = set_known (settled f.part c) (settled_known f c h) k
    add_one_known (many packed) c h e = add_all_known (many packed) (c ∷ []) (h, tt) e
    add_one_known (keyed key) c h e = add_all_known (keyed key) (c ∷ []) (h, tt) e
