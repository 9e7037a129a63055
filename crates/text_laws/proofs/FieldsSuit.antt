-- Values that are added to a field keep that the message suits its type and is plain.
use Rattle.std.proofs.Common.{◌≡◌, ℕ, ◌||◌, not, Bool, true, false, cond, List, [], ◌∷◌, ◌++◌, map, Option, None, Some, refl, sym, subst}
use Rattle.std.specs.List.{AllByRecursion}
use Rattle.std.proofs.lemmas.Option.{none-some}
use Rattle.protobuf_model.specs.Values.{Single, Content, single, message, list, dictionary, more_contents, more_entries, Held, content, records, Message, absent}
use Rattle.protobuf_model.specs.Types.{Name, Kind, scalar, nested, Part, Key, Label, one, many, keyed, Field, Types}
use Rattle.protobuf_model.specs.Scalars.{same}
use Rattle.protobuf_model.specs.Meaning.{items, if_any, pairs, if_some, put_all}
use Rattle.protobuf_model.specs.Typed.{IsOf, IsEntryOf, IsHeldOf, IsTypedBy}
use Rattle.protobuf_model.proofs.Arranged.{InRange, all_append}
use Rattle.protobuf_model.proofs.Lists.{all_map}
use Rattle.protobuf_model.proofs.Pieces.{listed, paired}
use Rattle.protobuf_model.proofs.Typing.{IsMap, put_all_map}
use Rattle.text_model.specs.Plain.{IsPlainContent, IsPlainHeld, IsPlain}
use Rattle.text_model.specs.Value.{entry_of, is_set, has_rival, assign, settled, add_all, add_one}
use Rattle.text_laws.proofs.Assigned.{field, assigned_typed, assigned_plain}
use Rattle.text_laws.proofs.EntriesSuit.{IsPlainEntry, all_put_all, plain_items, plain_chain, plain_pairs, plain_entries}

-- ---- one value

settled_held : (inner : Name → Message → Type 0) (levels : ℕ) (k : Kind) (p : Bool) (d : Single) (o : Option ℕ) (e : Bool) (c : Content) → IsOf inner k c
    → IsHeldOf inner levels (Some (field (record { kind = k; presence = p; default = d }) one o e)) (settled (record { kind = k; presence = p; default = d }) c)
settled_held inner levels (scalar k) p d o e (single v) h = by (p || not (same v d)) refl where
  by : (b : Bool) → (p || not (same v d)) ≡ b → IsHeldOf inner levels (Some (field (record { kind = scalar k; presence = p; default = d }) one o e)) (cond b (content (single v)) absent)
  by true set = (h, set)
  by false set = refl
settled_held inner levels (nested frame u) p d o e (message m) h = (h, tt)
settled_held inner levels k p d o e c h = absurd h

settled_plain : (types : Types) (part : Part) (o : Option ℕ) (e : Bool) (c : Content) → IsPlainContent types part.kind c → IsPlainHeld types (Some (field part one o e)) (settled part c)
settled_plain types part o e (single v) h = by (part.presence || not (same v part.default)) where
  by : (b : Bool) → IsPlainHeld types (Some (field part one o e)) (cond b (content (single v)) absent)
  by true = h
  by false = refl
settled_plain types part o e (message m) h = h
settled_plain types part o e (list cs) h = h
settled_plain types part o e (dictionary es) h = h

-- ---- lists

items_typed : (inner : Name → Message → Type 0) (levels : ℕ) (part : Part) (packed : Bool) (o : Option ℕ) (e : Bool) (h : Held) → IsHeldOf inner levels (Some (field part (many packed) o e)) h → AllByRecursion (IsOf inner part.kind) (items h)
items_typed inner levels part packed o e (records ps) t = tt
items_typed inner levels part packed o e (content (list (more_contents c cs))) t = t
items_typed inner levels part packed o e (content c) t = absurd t

items_plain : (types : Types) (f : Field) (h : Held) → IsPlainHeld types (Some f) h → AllByRecursion (IsPlainContent types f.part.kind) (items h)
items_plain types f (records ps) p = tt
items_plain types f (content (list cs)) p = plain_items types f.part.kind cs p
items_plain types f (content (single v)) p = tt
items_plain types f (content (message m)) p = tt
items_plain types f (content (dictionary es)) p = tt

if_any_typed : (inner : Name → Message → Type 0) (levels : ℕ) (part : Part) (packed : Bool) (o : Option ℕ) (e : Bool) (cs : List Content) → AllByRecursion (IsOf inner part.kind) cs → IsHeldOf inner levels (Some (field part (many packed) o e)) (if_any cs)
if_any_typed inner levels part packed o e [] h = refl
if_any_typed inner levels part packed o e (c ∷ cs) h = (h.0, subst (AllByRecursion (IsOf inner part.kind)) (sym (listed cs)) h.1)

if_any_plain : (types : Types) (f : Field) (cs : List Content) → AllByRecursion (IsPlainContent types f.part.kind) cs → IsPlainHeld types (Some f) (if_any cs)
if_any_plain types f [] h = refl
if_any_plain types f (c ∷ cs) h = plain_chain types f.part.kind (c ∷ cs) h

-- ---- maps

pairs_typed : (inner : Name → Message → Type 0) (levels : ℕ) (part : Part) (key : Key) (o : Option ℕ) (e : Bool) (h : Held) → IsHeldOf inner levels (Some (field part (keyed key) o e)) h → IsMap inner key part (pairs h)
pairs_typed inner levels part key o e (records ps) t = (tt, tt)
pairs_typed inner levels part key o e (content (dictionary (more_entries k c es))) t = t
pairs_typed inner levels part key o e (content c) t = absurd t

pairs_plain : (types : Types) (f : Field) (h : Held) → IsPlainHeld types (Some f) h → AllByRecursion (IsPlainEntry types f.part.kind) (pairs h)
pairs_plain types f (records ps) p = tt
pairs_plain types f (content (dictionary es)) p = plain_pairs types f.part.kind es p
pairs_plain types f (content (single v)) p = tt
pairs_plain types f (content (message m)) p = tt
pairs_plain types f (content (list es)) p = tt

if_some_typed : (inner : Name → Message → Type 0) (levels : ℕ) (part : Part) (key : Key) (o : Option ℕ) (e : Bool) (es : List (Single × Content)) → IsMap inner key part es → IsHeldOf inner levels (Some (field part (keyed key) o e)) (if_some es)
if_some_typed inner levels part key o e [] h = refl
if_some_typed inner levels part key o e (x ∷ es) h = subst (IsMap inner key part) (sym (paired (x ∷ es))) h

if_some_plain : (types : Types) (f : Field) (es : List (Single × Content)) → AllByRecursion (IsPlainEntry types f.part.kind) es → IsPlainHeld types (Some f) (if_some es)
if_some_plain types f [] h = refl
if_some_plain types f (e ∷ es) h = plain_entries types f.part.kind (e ∷ es) h

-- ---- what is added to a field

-- a content that may be added to a field, to a map a message that is an entry; where P holds, it is
-- plain
abbrev pub IsAdded : Type 0 → (Name → Message → Type 0) → Types → Part → Label → Content → Type 0
IsAdded P inner types part (keyed key) c = IsEntryOf inner key part (entry_of key part c) × (P → IsPlainEntry types part.kind (entry_of key part c))
IsAdded P inner types part _ c = IsOf inner part.kind c × (P → IsPlainContent types part.kind c)

-- what the first message has the other has too, and where P holds it is plain if the first is
pub record Keeps (P : Type 0) (inner : Name → Message → Type 0) (levels : ℕ) (types : Types) (t : Name) (m x : Message) : Type 0 where
  pub typed : IsTypedBy inner levels (types t) m → IsTypedBy inner levels (types t) x
  pub plain : P → IsPlain types t m → IsPlain types t x

entries_added : (P : Type 0) (inner : Name → Message → Type 0) (types : Types) (key : Key) (part : Part) (cs : List Content) → AllByRecursion (IsAdded P inner types part (keyed key)) cs
    → AllByRecursion (IsEntryOf inner key part) (map (entry_of key part) cs) × (P → AllByRecursion (IsPlainEntry types part.kind) (map (entry_of key part) cs))
entries_added P inner types key part [] h = (tt, λ p. tt)
entries_added P inner types key part (c ∷ cs) h = let rest = entries_added P inner types key part cs h.1 in ((h.0.0, rest.0), λ p. (h.0.1 p, rest.1 p))

module _ (P : Type 0) (inner : Name → Message → Type 0) (levels : ℕ) (types : Types) (t : Name) (n : ℕ) (part : Part) (l : Label) (o : Option ℕ) (e : Bool) (has : types t n ≡ Some (field part l o e)) (range : InRange n) (m x : Message) where
  assign_keeps : (h : Held) → (IsHeldOf inner levels (Some (field part l o e)) (m n) → IsHeldOf inner levels (Some (field part l o e)) h) → (P → IsPlainHeld types (Some (field part l o e)) (m n) → IsPlainHeld types (Some (field part l o e)) h)
      → Some (assign (types t) n h m) ≡ Some x → Keeps P inner levels types t m x
  assign_keeps h a b is =
      let same : assign (types t) n h m ≡ x = cc in
      record {
        typed = λ k. subst (IsTypedBy inner levels (types t)) same (assigned_typed inner levels (types t) n h m range (subst (λ f. IsHeldOf inner levels f h) (sym has) (a (subst (λ f. IsHeldOf inner levels f (m n)) has (k.contents n)))) k);
        plain = λ p k. subst (IsPlain types t) same (assigned_plain types t n h m (subst (λ f. IsPlainHeld types f h) (sym has) (b p (subst (λ f. IsPlainHeld types f (m n)) has (k n)))) k);
      }

set_is : (b : Bool) (m x : Message) → cond b None (Some m) ≡ Some x → ◌≡◌ {A = Option Message} (Some m) (Some x)
set_is true m x e = absurd (none-some x e)
set_is false m x e = e

pub add_all_keeps : (P : Type 0) (inner : Name → Message → Type 0) (levels : ℕ) (types : Types) (t : Name) (n : ℕ) (part : Part) (l : Label) (o : Option ℕ) (e : Bool) → types t n ≡ Some (field part l o e) → InRange n → (m x : Message) (cs : List Content)
    → AllByRecursion (IsAdded P inner types part l) cs → add_all (types t) n part l m cs ≡ Some x → Keeps P inner levels types t m x
add_all_keeps P inner levels types t n part one o e has range m x cs h is = absurd (none-some x is)
add_all_keeps P inner levels types t n part (many packed) o e has range m x cs h is =
    let f = field part (many packed) o e in
    assign_keeps P inner levels types t n part (many packed) o e has range m x (if_any (items (m n) ++ cs))
    (λ a. if_any_typed inner levels part packed o e (items (m n) ++ cs) (all_append (IsOf inner part.kind) (items (m n)) cs (items_typed inner levels part packed o e (m n) a) (all_map (IsAdded P inner types part (many packed)) (IsOf inner part.kind) cs (λ c k. k.0) h)))
    (λ p b. if_any_plain types f (items (m n) ++ cs) (all_append (IsPlainContent types part.kind) (items (m n)) cs (items_plain types f (m n) b) (all_map (IsAdded P inner types part (many packed)) (IsPlainContent types part.kind) cs (λ c k. k.1 p) h)))
    is
add_all_keeps P inner levels types t n part (keyed key) o e has range m x cs h is =
    let f = field part (keyed key) o e in
    let es = map (entry_of key part) cs in
    let added = entries_added P inner types key part cs h in
    assign_keeps P inner levels types t n part (keyed key) o e has range m x (if_some (put_all (pairs (m n)) es))
    (λ a. if_some_typed inner levels part key o e (put_all (pairs (m n)) es) (put_all_map inner key part (pairs (m n)) es (pairs_typed inner levels part key o e (m n) a) added.0))
    (λ p b. if_some_plain types f (put_all (pairs (m n)) es) (all_put_all (IsPlainEntry types part.kind) (pairs (m n)) es (pairs_plain types f (m n) b) (added.1 p)))
    is

pub settled_keeps : (P : Type 0) (inner : Name → Message → Type 0) (levels : ℕ) (types : Types) (t : Name) (n : ℕ) (part : Part) (o : Option ℕ) (e : Bool) → types t n ≡ Some (field part one o e) → InRange n → (m x : Message) (c : Content)
    → IsOf inner part.kind c → (P → IsPlainContent types part.kind c) → Some (assign (types t) n (settled part c) m) ≡ Some x → Keeps P inner levels types t m x
settled_keeps P inner levels types t n part o e has range m x c h p is =
    assign_keeps P inner levels types t n part one o e has range m x (settled part c)
    (λ a. settled_held inner levels part.kind part.presence part.default o e c h) (λ q b. settled_plain types part o e c (p q)) is

pub add_one_keeps : (P : Type 0) (inner : Name → Message → Type 0) (levels : ℕ) (types : Types) (t : Name) (n : ℕ) (part : Part) (l : Label) (o : Option ℕ) (e : Bool) → types t n ≡ Some (field part l o e) → InRange n → (m x : Message) (c : Content)
    → IsAdded P inner types part l c → add_one (types t) n part l m c ≡ Some x → Keeps P inner levels types t m x
add_one_keeps P inner levels types t n part one o e has range m x c h is =
    settled_keeps P inner levels types t n part o e has range m x c h.0 h.1 (set_is (is_set (m n) || has_rival (types t) n m) (assign (types t) n (settled part c) m) x is)
add_one_keeps P inner levels types t n part (many packed) o e has range m x c h is = add_all_keeps P inner levels types t n part (many packed) o e has range m x (c ∷ []) (h, tt) is
add_one_keeps P inner levels types t n part (keyed key) o e has range m x c h is = add_all_keeps P inner levels types t n part (keyed key) o e has range m x (c ∷ []) (h, tt) is

pub keeps_through : (P : Type 0) (inner : Name → Message → Type 0) (levels : ℕ) (types : Types) (t : Name) (m x y : Message) → Keeps P inner levels types t m x → Keeps P inner levels types t x y → Keeps P inner levels types t m y
keeps_through P inner levels types t m x y h k = record { typed = λ a. k.typed (h.typed a); plain = λ p b. k.plain p (h.plain p b) }
