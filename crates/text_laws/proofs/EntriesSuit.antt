-- The entries of a map: the key and the value of a message that suits the type of entries.
use Rattle.std.proofs.Common.{ℕ, Bool, List, [], ◌∷◌, Option, Some, subst}
use Rattle.std.specs.List.{AllByRecursion}
use Rattle.protobuf_model.specs.Values.{Single, Content, single, message, Contents, no_contents, more_contents, Entries, no_entries, more_entries, Held, content, records, Message, nothing, list_of, chain_of, pairs_of, entries_of}
use Rattle.protobuf_model.specs.Types.{Name, Kind, scalar, nested, Part, Key, one, Types}
use Rattle.protobuf_model.specs.Scalars.{Suits}
use Rattle.protobuf_model.specs.Keys.{put}
use Rattle.protobuf_model.specs.Meaning.{put_all}
use Rattle.protobuf_model.proofs.Typing.{all_put}
use Rattle.protobuf_model.specs.Typed.{IsOf, IsEntryOf, IsHeldOf, IsTypedBy, HasDefault}
use Rattle.text_model.specs.Plain.{AreBytes, IsPlainContent, ArePlainContents, ArePlainEntries, IsPlainHeld, IsPlain}
use Rattle.text_model.specs.Schemas.{key_part, HoldsOne}
use Rattle.text_model.specs.Value.{key_of, default_of, value_of, entry_of}
use Rattle.text_laws.proofs.Assigned.{field, nothing_plain}

abbrev pub IsPlainEntry : Types → Kind → Single × Content → Type 0
IsPlainEntry types k e = AreBytes e.0 × IsPlainContent types k e.1

key_right : (P : Type 0) (typed : Name → Message → Type 0) (levels : ℕ) (types : Types) (key : Key) (o : Option ℕ) (e : Bool) (h : Held) → Suits key.kind key.default → (P → AreBytes key.default)
    → IsHeldOf typed levels (Some (field (key_part key) one o e)) h → (P → IsPlainHeld types (Some (field (key_part key) one o e)) h) → Suits key.kind (key_of key h) × (P → AreBytes (key_of key h))
key_right P typed levels types key o e (records ps) s b t p = (s, b)
key_right P typed levels types key o e (content (single v)) s b t p = (t.0, p)
key_right P typed levels types key o e (content c) s b t p = absurd t.0

default_right : (P : Type 0) (typed : Name → Message → Type 0) (types : Types) → ((u : Name) → typed u nothing) → (part : Part) (k : Kind) → HasDefault k part.default → (P → AreBytes part.default) → IsOf typed k (default_of part k) × (P → IsPlainContent types k (default_of part k))
default_right P typed types fresh part (scalar k) s b = (s, b)
default_right P typed types fresh part (nested frame u) s b = (fresh u, λ p. nothing_plain types u)

value_right : (P : Type 0) (typed : Name → Message → Type 0) (levels : ℕ) (types : Types) → ((u : Name) → typed u nothing) → (part : Part) (o : Option ℕ) (e : Bool) (h : Held) → HasDefault part.kind part.default → (P → AreBytes part.default)
    → IsHeldOf typed levels (Some (field part one o e)) h → (P → IsPlainHeld types (Some (field part one o e)) h) → IsOf typed part.kind (value_of part h) × (P → IsPlainContent types part.kind (value_of part h))
value_right P typed levels types fresh part o e (records ps) s b t p = default_right P typed types fresh part part.kind s b
value_right P typed levels types fresh part o e (content c) s b t p = (t.0, p)

-- where P holds, the parts are plain
pub entry_right : (P : Type 0) (typed : Name → Message → Type 0) (levels : ℕ) (types : Types) → ((u : Name) → typed u nothing) → (t : Name) (key : Key) (part : Part) → HoldsOne (key_part key) (types t 1) → HoldsOne part (types t 2)
    → Suits key.kind key.default → HasDefault part.kind part.default → (P → AreBytes key.default × AreBytes part.default)
    → (m : Message) → IsTypedBy typed levels (types t) m → (P → IsPlain types t m) → IsEntryOf typed key part (entry_of key part (message m)) × (P → IsPlainEntry types part.kind (entry_of key part (message m)))
entry_right P typed levels types fresh t key part k v s d b m h p =
    let first = key_right P typed levels types key k.0 k.1 (m 1) s (λ q. (b q).0) (subst (λ o. IsHeldOf typed levels o (m 1)) k.2 (h.contents 1)) (λ q. subst (λ o. IsPlainHeld types o (m 1)) k.2 (p q 1)) in
    let second = value_right P typed levels types fresh part v.0 v.1 (m 2) d (λ q. (b q).1) (subst (λ o. IsHeldOf typed levels o (m 2)) v.2 (h.contents 2)) (λ q. subst (λ o. IsPlainHeld types o (m 2)) v.2 (p q 2)) in
    ((first.0, second.0), λ q. (first.1 q, second.1 q))

-- entries of a map that others are put into
pub all_put_all : (Q : Single × Content → Type 0) (es more : List (Single × Content)) → AllByRecursion Q es → AllByRecursion Q more → AllByRecursion Q (put_all es more)
all_put_all Q es [] h k = h
all_put_all Q es (e ∷ more) h k = all_put_all Q (put e.0 e.1 es) more (all_put Q e.0 e.1 es k.0 h) k.1

-- plain contents and entries as lists, and back
pub plain_items : (types : Types) (k : Kind) (cs : Contents) → ArePlainContents types k cs → AllByRecursion (IsPlainContent types k) (list_of cs)
plain_items types k no_contents h = tt
plain_items types k (more_contents c cs) h = (h.0, plain_items types k cs h.1)

pub plain_chain : (types : Types) (k : Kind) (cs : List Content) → AllByRecursion (IsPlainContent types k) cs → ArePlainContents types k (chain_of cs)
plain_chain types k [] h = tt
plain_chain types k (c ∷ cs) h = (h.0, plain_chain types k cs h.1)

pub plain_pairs : (types : Types) (k : Kind) (es : Entries) → ArePlainEntries types k es → AllByRecursion (IsPlainEntry types k) (pairs_of es)
plain_pairs types k no_entries h = tt
plain_pairs types k (more_entries key c es) h = ((h.0, h.1), plain_pairs types k es h.2)

pub plain_entries : (types : Types) (k : Kind) (es : List (Single × Content)) → AllByRecursion (IsPlainEntry types k) es → ArePlainEntries types k (entries_of es)
plain_entries types k [] h = tt
plain_entries types k (e ∷ es) h = (h.0.0, h.0.1, plain_entries types k es h.1)
