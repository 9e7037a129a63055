-- A message of which its type knows all suits it in more levels too, and what records of few levels
-- mean they mean where more are allowed.
use Rattle.std.proofs.Common.{◌≡◌, ◌⊎◌, inl, inr, ℕ, zero, suc, ◌<◌, ◌≤◌, List, [], ◌∷◌, ◌++◌, map, Option, None, Some, refl, sym, ap, ◌∙◌, subst, append-nil, arith}
use mathlib.Core.Path.{fun_ext}
use Rattle.std.specs.List.{AllByRecursion, flat_map}
use Rattle.reflect_wire.specs.Records.{Payload, delimited}
use Rattle.reflect_wire.specs.Written.{FitsPayload}
use Rattle.protobuf_model.specs.Accepts.{Acceptable, Accepts, AcceptsBy, AcceptsEntry, AcceptsEntryRecord, AcceptsField, AcceptsIn, AcceptsPart, AcceptsRecord, HasLevel, IsFramed, IsPacked}
use Rattle.protobuf_model.specs.Meaning.{elements, entry, entry_value, held, held_by, if_any, if_some, items, joined, last_or, left_of, meaning, meaning_by, message_in, pairs, payloads, put_all, standing, taken}
use Rattle.protobuf_model.specs.Older.{AnswersTo, AreKinds}
use Rattle.protobuf_model.specs.Reader.{inside, inside_of}
use Rattle.protobuf_model.specs.Scalars.{meant}
use Rattle.protobuf_model.specs.Typed.{IsHeldOf, IsTyped, IsTypedBy}
use Rattle.protobuf_model.specs.Types.{Field, Frame, Key, Kind, Label, Name, Part, Types, keyed, many, nested, one, rival, scalar}
use Rattle.protobuf_model.specs.Values.{Content, Held, Message, content, message, nothing, records}
use Rattle.protobuf_model.proofs.Arranged.{all_payloads, all_standing}
use Rattle.protobuf_model.proofs.Lists.{all_map}
use Rattle.protobuf_model.proofs.Merging.{joined_accepted}
use Rattle.known_messages.specs.KnownMessages.{KnowsAll, KnowsHeld}
use Rattle.known_messages.proofs.Contents.{Grows, held_kept}

-- ---- types

abbrev Same : Name → Name → Type 0
Same t u = t ≡ u

same_kinds : (k : Kind) → AreKinds Same k k
same_kinds (scalar k) = refl
same_kinds (nested frame u) = (refl, refl)

answers : (o : Option Field) → AnswersTo Same o o
answers None = tt
answers (Some f) = record { kind = same_kinds f.part.kind; presence = refl; default = refl; label = refl; extension = refl }

-- no records are kept, whose levels would count
other_level : (types : Types) (inner : Name → Message → Type 0) (low high : ℕ) (o : Option Field) (h : Held) → KnowsHeld types o h
    → IsHeldOf inner low o h → IsHeldOf inner high o h
other_level types inner low high None (records ps) a h = subst (AllByRecursion (FitsPayload high)) (sym a) tt
other_level types inner low high None (content c) a h = absurd a
other_level types inner low high (Some f) (records ps) a h = h
other_level types inner low high (Some f) (content c) a h = h

one_level : (types : Types) (before after : Name → Message → Type 0) → ((u : Name) (m : Message) → before u m → KnowsAll types u m → after u m)
    → (low high : ℕ) (t : Name) (m : Message) → IsTypedBy before low (types t) m → KnowsAll types t m
    → IsTypedBy after high (types t) m
one_level types before after more low high t m h a = record {
  numbers = h.numbers;
  contents = λ n. (held_kept types types Same before after grows high (types t n) (types t n) (m n) (answers (types t n)) (other_level types before low high (types t n) (m n) (a n) (h.contents n)) (a n)).0;
  exclusive = h.exclusive;
} where
  grows : Grows types types Same before after
  grows t u same m b k = (subst (λ v. after v m) same (more t m b k), subst (λ v. KnowsAll types v m) same k)

pub typed_deeper : (types : Types) (low high : ℕ) → low ≤ high → (t : Name) (m : Message) → IsTyped low types t m → KnowsAll types t m → IsTyped high types t m
typed_deeper types zero zero le t m h a = h
typed_deeper types zero (suc high) le t m h a = one_level types (λ u m. ⊥) (IsTyped high types) (λ u m b k. absurd b) zero (suc high) t m h a
typed_deeper types (suc low) zero le t m h a = absurd (omega (arith, le))
typed_deeper types (suc low) (suc high) le t m h a =
    one_level types (IsTyped low types) (IsTyped high types) (λ u m b k. typed_deeper types low high (omega (arith, le)) u m b k) (suc low) (suc high) t m h a

-- ---- meanings

abbrev Merging : Type 0
Merging = Name → Message → List (ℕ × Payload) → Message

module _ (accept : Acceptable) (levels : ℕ) (inner outer : Merging)
    (agree : (frame : Frame) (u : Name) (start : Message) (p : Payload) (ps : List Payload) → AllByRecursion (accept frame u) (p ∷ ps) → inner u start (joined (p ∷ ps)) ≡ outer u start (joined (p ∷ ps)))
    (agree_any : 0 < levels → (frame : Frame) (u : Name) (start : Message) (ps : List Payload) → AllByRecursion (accept frame u) ps → inner u start (joined ps) ≡ outer u start (joined ps)) where
  taken_same : (part : Part) (k : Kind) (h : Held) (ps : List Payload) → AllByRecursion (AcceptsPart accept k) ps → taken inner part k h ps ≡ taken outer part k h ps
  taken_same part (scalar k) h ps a = refl
  taken_same part (nested frame u) h [] a = refl
  taken_same part (nested frame u) h (p ∷ ps) a = ap (λ m. content (message m)) (agree frame u (message_in h) p ps a)

  one_element : (k : Kind) (p : Payload) → AcceptsPart accept k p ⊎ IsPacked k p → elements inner k p ≡ elements outer k p
  one_element (scalar k) p a = refl
  one_element (nested frame u) p (inl a) = ap (λ m. message m ∷ []) (subst (λ rs. inner u nothing rs ≡ outer u nothing rs) (append-nil (inside_of p)) (agree frame u nothing p [] (a, tt)))
  one_element (nested frame u) p (inr a) = absurd a

  all_elements : (k : Kind) (ps : List Payload) → AllByRecursion (λ p. AcceptsPart accept k p ⊎ IsPacked k p) ps
      → flat_map (elements inner k) ps ≡ flat_map (elements outer k) ps
  all_elements k [] a = refl
  all_elements k (p ∷ ps) a = ap (λ cs. cs ++ flat_map (elements inner k) ps) (one_element k p a.0) ∙ ap (λ cs. elements outer k p ++ cs) (all_elements k ps a.1)

  value_same : (part : Part) (k : Kind) (ps : List Payload) → HasLevel levels k → AllByRecursion (AcceptsPart accept k) ps
      → entry_value inner part k ps ≡ entry_value outer part k ps
  value_same part (scalar k) ps l a = refl
  value_same part (nested frame u) ps l a = ap message (agree_any l frame u nothing ps a)

  one_entry : (key : Key) (part : Part) (p : Payload) → AcceptsEntry accept levels key part p → entry inner key part p ≡ entry outer key part p
  one_entry key part (delimited body) a =
      ap (λ (c : Content). (last_or key.default (flat_map (meant key.kind) (payloads 1 (inside body))), c))
      (value_same part part.kind (payloads 2 (inside body)) a.0 (all_payloads (AcceptsEntryRecord accept key part) 2 (inside body) a.2))
  one_entry key part p a = absurd a

  all_entries : (key : Key) (part : Part) (ps : List Payload) → AllByRecursion (AcceptsEntry accept levels key part) ps
      → map (entry inner key part) ps ≡ map (entry outer key part) ps
  all_entries key part [] a = refl
  all_entries key part (p ∷ ps) a = ap (λ e. e ∷ map (entry inner key part) ps) (one_entry key part p a.0) ∙ ap (λ es. entry outer key part p ∷ es) (all_entries key part ps a.1)

  field_same : (part : Part) (l : Label) (h : Held) (ps : List Payload) → AllByRecursion (AcceptsField accept levels part l) ps
      → held_by inner part l h ps ≡ held_by outer part l h ps
  field_same part one h ps a = taken_same part part.kind h ps a
  field_same part (many packed) h ps a = ap (λ cs. if_any (items h ++ cs)) (all_elements part.kind ps a)
  field_same part (keyed key) h ps a = ap (λ es. if_some (put_all (pairs h) es)) (all_entries key part ps a)

  held_same : (o : Option Field) (h : Held) (ps : List Payload) → AllByRecursion (AcceptsIn accept levels o) ps → held inner o h ps ≡ held outer o h ps
  held_same None h ps a = refl
  held_same (Some f) h ps a = field_same f.part f.label h ps a

  meaning_same : (types : Types) (t : Name) (start : Message) (rs : List (ℕ × Payload)) → AcceptsBy accept levels types t rs
      → meaning_by inner types t start rs ≡ meaning_by outer types t start rs
  meaning_same types t start rs a =
      fun_ext (λ n.
      let ps = standing (rival (types t) n) n rs in
      held_same (types t n) (left_of (rival (types t) n) (start n) rs) ps
      (all_map (λ p. AcceptsRecord accept levels (types t) (n, p)) (AcceptsIn accept levels (types t n)) ps (λ p k. k.suits)
      (all_standing (rival (types t) n) (AcceptsRecord accept levels (types t)) n rs a)))

pub meaning_deeper : (types : Types) (low high : ℕ) → low ≤ high → (t : Name) (start : Message) (rs : List (ℕ × Payload)) → Accepts low types t rs
    → meaning low types t start rs ≡ meaning high types t start rs
meaning_deeper types zero zero le t start rs a = refl
meaning_deeper types zero (suc high) le t start rs a =
    meaning_same (λ frame u p. ⊥) zero (λ u m rs. m) (meaning high types) (λ frame u s p ps b. absurd b.0) (λ some frame u s ps b. absurd (omega (arith, some))) types t start rs a
meaning_deeper types (suc low) zero le t start rs a = absurd (omega (arith, le))
meaning_deeper types (suc low) (suc high) le t start rs a =
    meaning_same (λ frame u p. IsFramed low frame p × Accepts low types u (inside_of p)) (suc low) (meaning low types) (meaning high types)
    (λ frame u s p ps b. meaning_deeper types low high (omega (arith, le)) u s (joined (p ∷ ps)) (joined_accepted low types frame u (p ∷ ps) b))
    (λ some frame u s ps b. meaning_deeper types low high (omega (arith, le)) u s (joined ps) (joined_accepted low types frame u ps b)) types t start rs a
