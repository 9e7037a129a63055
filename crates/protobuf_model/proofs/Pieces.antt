-- The meaning of records in two parts.
use Rattle.std.proofs.Common.{◌≡◌, ℕ, zero, suc, Bool, true, false, not, ◌||◌, ◌&&◌, ◌==◌, List, [], ◌∷◌, ◌++◌, map, Option, Some, None, cond, refl, sym, ap, ◌∙◌, append-nil, append_assoc}
use Rattle.std.specs.List.{flat_map}
use mathlib.Core.Path.{fun_ext}
use Rattle.reflect_wire.specs.Records.{Payload}
use Rattle.protobuf_model.specs.Values.{Single, Content, Held, content, records, Message, absent, message, list_of, chain_of, pairs_of, entries_of}
use Rattle.protobuf_model.specs.Types.{Name, Kind, scalar, nested, Part, Label, one, many, keyed, Field, Types, rival}
use Rattle.protobuf_model.specs.Scalars.{meant}
use Rattle.protobuf_model.specs.Keys.{put}
use Rattle.protobuf_model.specs.Reader.{inside_of}
use Rattle.protobuf_model.specs.Meaning.{is_in, standing, left_of, settle, last_set, message_in, joined, taken, elements, items, if_any, entry, pairs, if_some, put_all, held_by, kept, held, meaning_by, meaning}

pub flat_map-append : {X Y : Type 0} (f : X → List Y) (a b : List X) → flat_map f (a ++ b) ≡ flat_map f a ++ flat_map f b
flat_map-append f [] b = refl
flat_map-append f (x ∷ a) b = ap (λ ys. f x ++ ys) (flat_map-append f a b) ∙ sym (append_assoc (f x) (flat_map f a) (flat_map f b))

pub map_append : {X Y : Type 0} (f : X → Y) (a b : List X) → map f (a ++ b) ≡ map f a ++ map f b
map_append f [] b = refl
map_append f (x ∷ a) b = ap (λ ys. f x ∷ ys) (map_append f a b)

or_assoc : (a b c : Bool) → (a || (b || c)) ≡ ((a || b) || c)
or_assoc true b c = refl
or_assoc false b c = refl

pub is_in-append : (test : ℕ → Bool) (a b : List (ℕ × Payload)) → is_in test (a ++ b) ≡ (is_in test a || is_in test b)
is_in-append test [] b = refl
is_in-append test (r ∷ a) b = ap (λ t. test r.0 || t) (is_in-append test a b) ∙ or_assoc (test r.0) (is_in test a) (is_in test b)

-- those that stand of records in two parts: where a rival is in the second, none of the first
stands : (mine later first : Bool) (p : Payload) (ps qs : List Payload)
    → cond (mine && not (first || later)) (p ∷ cond later qs (ps ++ qs)) (cond later qs (ps ++ qs)) ≡ cond later qs (cond (mine && not first) (p ∷ ps) ps ++ qs)
stands true true true p ps qs = refl
stands true true false p ps qs = refl
stands true false true p ps qs = refl
stands true false false p ps qs = refl
stands false true first p ps qs = refl
stands false false first p ps qs = refl

same_cond : (b : Bool) (qs : List Payload) → qs ≡ cond b qs qs
same_cond true qs = refl
same_cond false qs = refl

pub standing-append : (rivals : ℕ → Bool) (n : ℕ) (a b : List (ℕ × Payload)) → standing rivals n (a ++ b) ≡ cond (is_in rivals b) (standing rivals n b) (standing rivals n a ++ standing rivals n b)
standing-append rivals n [] b = same_cond (is_in rivals b) (standing rivals n b)
standing-append rivals n (r ∷ a) b =
    ap (λ t. cond (r.0 == n && not t) (r.1 ∷ standing rivals n (a ++ b)) (standing rivals n (a ++ b))) (is_in-append rivals a b)
    ∙ ap (λ ps. cond (r.0 == n && not (is_in rivals a || is_in rivals b)) (r.1 ∷ ps) ps) (standing-append rivals n a b)
    ∙ stands (r.0 == n) (is_in rivals b) (is_in rivals a) r.1 (standing rivals n a) (standing rivals n b)

last_set-append : (part : Part) (h : Held) (vs ws : List Single) → last_set part (last_set part h vs) ws ≡ last_set part h (vs ++ ws)
last_set-append part h [] ws = refl
last_set-append part h (v ∷ vs) ws = last_set-append part (settle part v) vs ws

pub listed : (cs : List Content) → list_of (chain_of cs) ≡ cs
listed [] = refl
listed (c ∷ cs) = ap (λ ds. c ∷ ds) (listed cs)

pub paired : (es : List (Single × Content)) → pairs_of (entries_of es) ≡ es
paired [] = refl
paired (e ∷ es) = ap (λ ds. e ∷ ds) (paired es)

pub items-if_any : (cs : List Content) → items (if_any cs) ≡ cs
items-if_any [] = refl
items-if_any (c ∷ cs) = listed (c ∷ cs)

pub pairs-if_some : (es : List (Single × Content)) → pairs (if_some es) ≡ es
pairs-if_some [] = refl
pairs-if_some (e ∷ es) = paired (e ∷ es)

put_all-append : (es a b : List (Single × Content)) → put_all (put_all es a) b ≡ put_all es (a ++ b)
put_all-append es [] b = refl
put_all-append es (e ∷ a) b = put_all-append (put e.0 e.1 es) a b

abbrev pub Inner : Type 0
Inner = Name → Message → List (ℕ × Payload) → Message

pub record InPieces (inner : Inner) : Type 0 where
  pub pieces : (j : Name) (m : Message) (a b : List (ℕ × Payload)) → inner j (inner j m a) b ≡ inner j m (a ++ b)

taken-append : (inner : Inner) → InPieces inner → (part : Part) (k : Kind) (h : Held) (ps qs : List Payload) → taken inner part k (taken inner part k h ps) qs ≡ taken inner part k h (ps ++ qs)
taken-append inner each part (scalar k) h ps qs = last_set-append part h (flat_map (meant k) ps) (flat_map (meant k) qs) ∙ ap (last_set part h) (sym (flat_map-append (meant k) ps qs))
taken-append inner each part (nested frame j) h [] qs = refl
taken-append inner each part (nested frame j) h (p ∷ ps) [] = ap (taken inner part (nested frame j) h) (sym (append-nil (p ∷ ps)))
taken-append inner each part (nested frame j) h (p ∷ ps) (q ∷ qs) =
    ap (λ m. content (message m)) (each.pieces j (message_in h) (joined (p ∷ ps)) (joined (q ∷ qs)) ∙ ap (inner j (message_in h)) (sym (flat_map-append inside_of (p ∷ ps) (q ∷ qs))))

held_by-append : (inner : Inner) → InPieces inner → (part : Part) (l : Label) (h : Held) (ps qs : List Payload) → held_by inner part l (held_by inner part l h ps) qs ≡ held_by inner part l h (ps ++ qs)
held_by-append inner each part one h ps qs = taken-append inner each part part.kind h ps qs
held_by-append inner each part (many packed) h ps qs =
    let f = elements inner part.kind in
    ap (λ cs. if_any (cs ++ flat_map f qs)) (items-if_any (items h ++ flat_map f ps))
    ∙ ap if_any (append_assoc (items h) (flat_map f ps) (flat_map f qs) ∙ ap (λ cs. items h ++ cs) (sym (flat_map-append f ps qs)))
held_by-append inner each part (keyed key) h ps qs =
    let f = entry inner key part in
    ap (λ es. if_some (put_all es (map f qs))) (pairs-if_some (put_all (pairs h) (map f ps)))
    ∙ ap if_some (put_all-append (pairs h) (map f ps) (map f qs) ∙ ap (put_all (pairs h)) (sym (map_append f ps qs)))

held-append : (inner : Inner) → InPieces inner → (o : Option Field) (h : Held) (ps qs : List Payload) → held inner o (held inner o h ps) qs ≡ held inner o h (ps ++ qs)
held-append inner each None h ps qs = ap records (append_assoc (kept h) ps qs)
held-append inner each (Some f) h ps qs = held_by-append inner each f.part f.label h ps qs

-- what is struck out by the second part does not count in the first
in_parts : (inner : Inner) → InPieces inner → (o : Option Field) (first later : Bool) (h : Held) (ps qs : List Payload)
    → held inner o (cond later absent (held inner o (cond first absent h) ps)) qs ≡ held inner o (cond (first || later) absent h) (cond later qs (ps ++ qs))
in_parts inner each o true true h ps qs = refl
in_parts inner each o false true h ps qs = refl
in_parts inner each o true false h ps qs = held-append inner each o absent ps qs
in_parts inner each o false false h ps qs = held-append inner each o h ps qs

meaning_by-append : (inner : Inner) (types : Types) → InPieces inner → InPieces (meaning_by inner types)
meaning_by-append inner types each = record {
  pieces = λ i m a b. fun_ext (λ n.
      let rivals = rival (types i) n in
      in_parts inner each (types i n) (is_in rivals a) (is_in rivals b) (m n) (standing rivals n a) (standing rivals n b)
      ∙ ap (λ t. held inner (types i n) (cond t absent (m n)) (cond (is_in rivals b) (standing rivals n b) (standing rivals n a ++ standing rivals n b))) (sym (is_in-append rivals a b))
      ∙ ap (held inner (types i n) (left_of rivals (m n) (a ++ b))) (sym (standing-append rivals n a b)));
}

-- the meaning of records, and then of others, is that of both
pub meaning_in_pieces : (levels : ℕ) (types : Types) → InPieces (meaning levels types)
meaning_in_pieces zero types = meaning_by-append (λ j m rs. m) types (record { pieces = λ j m a b. refl })
meaning_in_pieces (suc levels) types = meaning_by-append (meaning levels types) types (meaning_in_pieces levels types)
