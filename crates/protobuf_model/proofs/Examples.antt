-- Worked cases: the definitions compute what the wire format's documentation says.
use Rattle.std.proofs.Common.{◌≡◌, ℕ, zero, suc, pos, ◌<◌, ◌==◌, ◌&&◌, not, Bool, true, false, cond, [], ◌∷◌, Option, Some, None, refl, sym, ap, ◌∙◌, subst, arith}
use Rattle.std.specs.Prelude.{Contains, slice_index_or, bytes_eq}
use Rattle.reflect_wire.specs.Records.{varint, delimited, group, more_records, no_records}
use Rattle.reflect_wire.specs.Encoding.{records_bytes}
use Rattle.reflect_wire.specs.Views.{records_of}
use Rattle.protobuf_model.specs.Values.{int32, text, single, list, dictionary, more_contents, no_contents, more_entries, no_entries, content, records, absent, nothing}
use Rattle.protobuf_model.specs.Types.{Name, oneof_of, same_oneof, rival, scalar, nested, sized, one, many, keyed, Field, Types}
use Rattle.protobuf_model.specs.Types as kinds
use Rattle.protobuf_model.specs.Reader.{inside, row}
use Rattle.protobuf_model.specs.Meaning.{meaning}
use Rattle.protobuf_model.specs.Bytes.{payloads_under}
use Rattle.protobuf_model.specs.Older.{AreAlike, AnswersTo, IsOlder}

-- the names M and N
abbrev type_m : Name
type_m = 77 ∷ []

abbrev type_n : Name
type_n = 78 ∷ []

abbrev number : Option ℕ → Option Field
number oneof = Some (record { part = record { kind = scalar kinds.int32; presence = false; default = int32 (pos 0) }; label = one; oneof = oneof; extension = false })

abbrev member : ℕ → Option Field
member o = Some (record { part = record { kind = scalar kinds.int32; presence = true; default = int32 (pos 0) }; label = one; oneof = Some o; extension = false })

abbrev sub : Option Field
sub = Some (record { part = record { kind = nested sized type_n; presence = true; default = int32 (pos 0) }; label = one; oneof = None; extension = false })

abbrev numbers : Option Field
numbers = Some (record { part = record { kind = scalar kinds.int32; presence = false; default = int32 (pos 0) }; label = many true; oneof = None; extension = false })

abbrev texts : Option Field
texts = Some (record {
  part = record { kind = scalar kinds.string; presence = false; default = text [] };
  label = keyed (record { kind = kinds.int32; presence = false; default = int32 (pos 0) });
  oneof = None;
  extension = false;
})

-- message M { int32 foo = 1; N nested = 3; repeated int32 xs = 4; map<int32, string> m = 5; oneof o { int32 a = 6; int32 b = 7; } } message N { int32 bar = 2; }
abbrev types : Types
types t n = cond (bytes_eq t type_m) (cond (n == 1) (number None) (cond (n == 3) sub (cond (n == 4) numbers (cond (n == 5) texts (cond (n == 6) (member 0) (cond (n == 7) (member 0) None)))))) (cond (bytes_eq t type_n) (cond (n == 2) (number None) None) None)

-- 08 96 01 spells 150 under 1, and 1a 02 10 42 a message under 3 with 66 under 2
read : inside (26 ∷ 2 ∷ 16 ∷ 66 ∷ 8 ∷ 150 ∷ 1 ∷ []) ≡ (3, delimited (16 ∷ 66 ∷ [])) ∷ (1, varint 150) ∷ []
unfolding inside
read = refl

first : meaning 2 types type_m nothing ((3, delimited (16 ∷ 66 ∷ [])) ∷ (1, varint 150) ∷ []) 1 ≡ content (single (int32 (pos 150)))
first = refl

below : meaning 1 types type_n nothing (inside (16 ∷ 66 ∷ [])) 2 ≡ content (single (int32 (pos 66)))
unfolding inside
below = refl

-- a zero without presence is not set
zero_unset : meaning 2 types type_m nothing ((1, varint 5) ∷ (1, varint 0) ∷ []) 1 ≡ absent
zero_unset = refl

-- packed and not, one behind the other
together : meaning 2 types type_m nothing ((4, delimited (1 ∷ 2 ∷ [])) ∷ (4, varint 150) ∷ []) 4 ≡ content (list (more_contents (single (int32 (pos 1))) (more_contents (single (int32 (pos 2))) (more_contents (single (int32 (pos 150))) no_contents))))
unfolding row
together = refl

-- entries by ascending key, the last of a key; a missing key is zero
in_order : meaning 2 types type_m nothing ((5, delimited (8 ∷ 2 ∷ 18 ∷ 1 ∷ 98 ∷ [])) ∷ (5, delimited (18 ∷ 1 ∷ 97 ∷ [])) ∷ (5, delimited (8 ∷ 2 ∷ 18 ∷ 1 ∷ 99 ∷ [])) ∷ []) 5
    ≡ content (dictionary (more_entries (int32 (pos 0)) (single (text (97 ∷ []))) (more_entries (int32 (pos 2)) (single (text (99 ∷ []))) no_entries)))
unfolding inside
in_order = refl

-- 38 02 30 01: the record under 6 strikes out the one under 7
struck : meaning 2 types type_m nothing ((7, varint 2) ∷ (6, varint 1) ∷ []) 7 ≡ absent
struck = refl

stands : meaning 2 types type_m nothing ((7, varint 2) ∷ (6, varint 1) ∷ []) 6 ≡ content (single (int32 (pos 1)))
stands = refl

-- behind one another the other way the other one stands: so a program that knows the field 6 alone, keeps the record of 7 and writes it last, would change what
-- is meant, and its type is no older one: to it the two are in no oneof
other_way : meaning 2 types type_m nothing ((6, varint 1) ∷ (7, varint 2) ∷ []) 6 ≡ absent
other_way = refl

abbrev one_member : Types
one_member t n = cond (n == 6) (member 0) None

rivals_here : (rival (types type_m) 6 7 ≡ true) × (rival (one_member type_m) 6 7 ≡ false)
rivals_here = (refl, refl)

-- records of other numbers are kept in order
kept : meaning 2 types type_m nothing ((9, varint 2) ∷ (6, varint 1) ∷ (9, group (more_records 1 (varint 3) no_records)) ∷ []) 9 ≡ records (varint 2 ∷ group (more_records 1 (varint 3) no_records) ∷ [])
kept = refl

-- an entry leaves out a key that is zero
left_out : payloads_under types texts (content (dictionary (more_entries (int32 (pos 0)) (single (text (97 ∷ []))) no_entries))) ≡ delimited (records_bytes (records_of ((2, delimited (97 ∷ [])) ∷ []))) ∷ []
left_out = refl

-- a program that knows foo alone is older: message M { int32 foo = 1; }
abbrev older_types : Types
older_types t n = cond (bytes_eq t type_m) (cond (n == 1) (number None) None) None

abbrev newer_types : Types
newer_types t n = cond (bytes_eq t type_m) (cond (n == 1) (number None) (cond (n == 3) sub None)) (cond (n == 2) (number None) None)

same_pair : (i j : Name) → Contains {X = Name × Name} ((type_m, type_m) ∷ []) (i, j) → (i ≡ type_m) × (j ≡ type_m)
same_pair i j h = by h.0 h.1 h.2 where
  by : (k : ℕ) → k < 1 → slice_index_or {A = Name × Name} ((type_m, type_m) ∷ []) k (i, j) ≡ (i, j) → (i ≡ type_m) × (j ≡ type_m)
  by zero l e = (ap (λ (p : Name × Name). p.0) (sym e), ap (λ (p : Name × Name). p.1) (sym e))
  by (suc k) l e = absurd (omega arith)

alike : (Pair : Name → Name → Type 0) → AreAlike Pair (record { part = record { kind = scalar kinds.int32; presence = false; default = int32 (pos 0) }; label = one; oneof = None; extension = false })
    (record { part = record { kind = scalar kinds.int32; presence = false; default = int32 (pos 0) }; label = one; oneof = None; extension = false })
alike Pair = record { kind = refl; presence = refl; default = refl; label = refl; extension = refl }

answers : (Pair : Name → Name → Type 0) (b c : Bool) → AnswersTo Pair (cond b (number None) None) (cond b (number None) (cond c sub None))
answers Pair true c = alike Pair
answers Pair false c = tt

no_oneofs_old : (b c : Bool) → same_oneof (oneof_of (cond b (number None) None)) (oneof_of (cond c (number None) None)) ≡ false
no_oneofs_old true true = refl
no_oneofs_old true false = refl
no_oneofs_old false c = refl

and_false : (b : Bool) → (b && false) ≡ false
and_false true = refl
and_false false = refl

no_oneofs_new : (b c d e : Bool) → same_oneof (oneof_of (cond b (number None) (cond c sub None))) (oneof_of (cond d (number None) (cond e sub None))) ≡ false
no_oneofs_new true c d e = refl
no_oneofs_new false true d e = refl
no_oneofs_new false false d e = refl

abbrev Pair : Name → Name → Type 0
Pair = λ i j. Contains {X = Name × Name} ((type_m, type_m) ∷ []) (i, j)

no_rivals_old : (n q : ℕ) → rival (older_types type_m) n q ≡ false
no_rivals_old n q = ap (λ b. not (q == n) && b) (no_oneofs_old (n == 1) (q == 1)) ∙ and_false (not (q == n))

no_rivals_new : (n q : ℕ) → rival (newer_types type_m) n q ≡ false
no_rivals_new n q = ap (λ b. not (q == n) && b) (no_oneofs_new (n == 1) (n == 3) (q == 1) (q == 3)) ∙ and_false (not (q == n))

-- so the premises of the laws of passage can be met
is_older : IsOlder older_types type_m newer_types type_m
is_older = (
  (type_m, type_m) ∷ [],
  record {
    fields = λ i j h n.
        subst (λ i. AnswersTo Pair (older_types i n) (newer_types j n)) (sym (same_pair i j h).0)
        (subst (λ j. AnswersTo Pair (older_types type_m n) (newer_types j n)) (sym (same_pair i j h).1) (answers Pair (n == 1) (n == 3)));
    oneofs = λ i j h n q.
        ap (λ i. rival (older_types i) n q) (same_pair i j h).0 ∙ no_rivals_old n q ∙ sym (no_rivals_new n q) ∙ ap (λ j. rival (newer_types j) n q) (sym (same_pair i j h).1);
  },
  (0, omega arith, refl),
)
