-- The line and the column that are told of a place in a source lead back to it.
use Rattle.std.proofs.Common.{◌≡◌, ℕ, zero, suc, ◌+◌, ◌-◌, ◌<◌, ◌≤◌, ◌⊎◌, inl, inr, Bool, true, false, cond, nat_le, nat_lt, List, [], ◌∷◌, fold, drop, get_or, length, eqb, Option, None, Some, refl, ap, sym, subst, ◌∙◌, arith}
use Rattle.std.proofs.lemmas.Bool.{cases_lt, eqb-true, le-leb, le-ltb, lt-ltb}
use Rattle.std.proofs.lemmas.List.{drop_more}
use Rattle.std.proofs.lemmas.List.Sums.{sum_by-cons}
use Rattle.std.specs.Option.{option_and_then}
use Rattle.memchr.specs.Find.{is_byte, places_from}
use Rattle.protox_lex.specs.Lines.{column_at, feeds_of, later_start, line_at, span_at, start_at}
use Rattle.reflect_faults.proofs.Lines.{behind, past_end, past_other, starts_at_zero}
use Rattle.reflect_faults.specs.SourceBytes.{bytes_at, first_of_line, len_of_line, offset_at, range}
use Rattle.reflect_faults.specs.Spans.{span_of}

-- ---- line feeds, and those before an offset

one_more : (e : ℕ) (es : List ℕ) (off : ℕ) → line_at (e ∷ es) off ≡ cond (nat_lt e off) 1 0 + line_at es off
one_more e es off = sum_by-cons (λ x. cond (nat_lt x off) 1 0) e es

counts : (e : ℕ) (es : List ℕ) (off : ℕ) → nat_lt e off ≡ true → line_at (e ∷ es) off ≡ 1 + line_at es off
counts e es off is = one_more e es off ∙ ap (λ b. cond b 1 0 + line_at es off) is

passes : (e : ℕ) (es : List ℕ) (off : ℕ) → nat_lt e off ≡ false → line_at (e ∷ es) off ≡ 0 + line_at es off
passes e es off is = one_more e es off ∙ ap (λ b. cond b 1 0 + line_at es off) is

-- where none lies before an offset, a line starts where it started
stays : (es : List ℕ) (off c : ℕ) → line_at es off ≡ 0 → fold (later_start off) c es ≡ c
stays [] off c none = refl
stays (e ∷ es) off c none = by (nat_lt e off) refl (stays es off c) where
  by : (b : Bool) → nat_lt e off ≡ b → (line_at es off ≡ 0 → fold (later_start off) c es ≡ c) → fold (later_start off) c (e ∷ es) ≡ c
  by true is later = let more = counts e es off is in absurd (omega (arith, more, none))
  by false is later = let more = passes e es off is in rw is (later (omega (arith, more, none)))

-- where some does, that is forgotten
forgets : (es : List ℕ) (off c d : ℕ) → 1 ≤ line_at es off → fold (later_start off) c es ≡ fold (later_start off) d es
forgets [] off c d some = absurd (omega (arith, some))
forgets (e ∷ es) off c d some = by (nat_lt e off) refl (forgets es off c d) where
  by : (b : Bool) → nat_lt e off ≡ b → (1 ≤ line_at es off → fold (later_start off) c es ≡ fold (later_start off) d es)
      → fold (later_start off) c (e ∷ es) ≡ fold (later_start off) d (e ∷ es)
  by true is later = rw is refl
  by false is later = let more = passes e es off is in rw is (later (omega (arith, more, some)))

-- behind one that lies before it a line starts
begins : (es : List ℕ) (off e : ℕ) → nat_lt e off ≡ true → fold (later_start off) e (e ∷ es) ≡ fold (later_start off) (e + 1) es
begins es off e is = rw is refl

-- ---- the line feeds of a source from a place on

abbrev feeds_from : List ℕ → ℕ → ℕ → List ℕ
feeds_from s i k = places_from (is_byte 10) s i k

feed_here : (s : List ℕ) (i k : ℕ) → eqb (get_or s i 0) 10 ≡ true → feeds_from s i (suc k) ≡ i ∷ feeds_from s (i + 1) k
unfolding places_from
feed_here s i k is = rw is refl

other_here : (s : List ℕ) (i k : ℕ) → eqb (get_or s i 0) 10 ≡ false → feeds_from s i (suc k) ≡ feeds_from s (i + 1) k
unfolding places_from
other_here s i k is = rw is refl

no_feeds : (s : List ℕ) (i : ℕ) → feeds_from s i 0 ≡ []
unfolding places_from
no_feeds s i = refl

none_before : (s : List ℕ) (k i off : ℕ) → off ≤ i → line_at (feeds_from s i k) off ≡ 0
none_before s zero i off le = ap (λ es. line_at es off) (no_feeds s i)
none_before s (suc k) i off le = by (eqb (get_or s i 0) 10) refl (none_before s k (i + 1) off (omega arith)) where
  by : (b : Bool) → eqb (get_or s i 0) 10 ≡ b → line_at (feeds_from s (i + 1) k) off ≡ 0 → line_at (feeds_from s i (suc k)) off ≡ 0
  by true is later = ap (λ es. line_at es off) (feed_here s i k is) ∙ passes i (feeds_from s (i + 1) k) off (le-ltb i off le) ∙ ap (λ n. 0 + n) later
  by false is later = ap (λ es. line_at es off) (other_here s i k is) ∙ later

-- where none lies between a place and an offset, the line that begins there reaches to it
reaches : (s : List ℕ) (off : ℕ) → off ≤ length s → (k i : ℕ) → i + k ≡ length s → line_at (feeds_from s i k) off ≡ 0 → off ≤ i + len_of_line (drop i s)
reaches s off le zero i all none = omega (arith, all, le)
reaches s off le (suc k) i all none = by (cases_lt i off) (eqb (get_or s i 0) 10) refl (reaches s off le k (i + 1) (omega (arith, all))) where
  by : (i < off) ⊎ (off ≤ i) → (b : Bool) → eqb (get_or s i 0) 10 ≡ b → (line_at (feeds_from s (i + 1) k) off ≡ 0 → off ≤ i + 1 + len_of_line (drop (i + 1) s)) → off ≤ i + len_of_line (drop i s)
  by (inr past) b is later = omega (arith, past)
  by (inl lt) true is later =
      let more : line_at (feeds_from s i (suc k)) off ≡ 1 + line_at (feeds_from s (i + 1) k) off =
      ap (λ es. line_at es off) (feed_here s i k is) ∙ counts i (feeds_from s (i + 1) k) off (lt-ltb i off lt) in
      absurd (omega (arith, more, none))
  by (inl lt) false is later =
      let rest : len_of_line (get_or s i 0 ∷ drop (i + 1) s) ≡ 1 + len_of_line (drop (i + 1) s) = rw is refl in
      let longer : len_of_line (drop i s) ≡ 1 + len_of_line (drop (i + 1) s) = ap len_of_line (drop_more s i 0 (omega (arith, lt, le))) ∙ rest in
      let none_later : line_at (feeds_from s (i + 1) k) off ≡ 0 = sym (ap (λ es. line_at es off) (other_here s i k is)) ∙ none in
      omega (arith, longer, later none_later)

-- ---- the line of an offset, counted from a place that it does not lie before

abbrev start_from : ℕ → ℕ → List ℕ → ℕ
start_from i off es = fold (later_start off) i es

record Leads (s : List ℕ) (off i : ℕ) (es : List ℕ) : Type 0 where
  line : behind i (first_of_line (drop i s) (line_at es off)) ≡ Some (start_from i off es)
  low : start_from i off es ≤ off
  high : off ≤ start_from i off es + len_of_line (drop (start_from i off es) s)

first_line : (s : List ℕ) (off i : ℕ) (es : List ℕ) → i ≤ off → line_at es off ≡ 0 → off ≤ i + len_of_line (drop i s) → Leads s off i es
first_line s off i es le none reach =
    let same : start_from i off es ≡ i = stays es off i none in
    record {
      line = ap (λ n. behind i (first_of_line (drop i s) n)) none ∙ ap (behind i) (starts_at_zero (drop i s)) ∙ ap Some (omega (arith, same));
      low = omega (arith, same, le);
      high = subst (λ n. off ≤ n + len_of_line (drop n s)) (sym same) reach;
    }

-- as it is counted from the next place on
later_line : (s : List ℕ) (off i : ℕ) (es fs : List ℕ) → start_from i off es ≡ start_from (i + 1) off fs
    → behind i (first_of_line (drop i s) (line_at es off)) ≡ behind (i + 1) (first_of_line (drop (i + 1) s) (line_at fs off)) → Leads s off (i + 1) fs → Leads s off i es
later_line s off i es fs same line l = record {
  line = line ∙ l.line ∙ ap Some (sym same);
  low = let low = l.low in omega (arith, same, low);
  high = subst (λ n. off ≤ n + len_of_line (drop n s)) (sym same) l.high;
}

leads : (s : List ℕ) (off : ℕ) → off ≤ length s → (k i : ℕ) → i + k ≡ length s → i ≤ off → Leads s off i (feeds_from s i k)
leads s off le zero i all low = first_line s off i (feeds_from s i 0) low (none_before s 0 i off (omega (arith, all, le))) (omega (arith, all, le))
leads s off le (suc k) i all low = by (cases_lt i off) (eqb (get_or s i 0) 10) refl (leads s off le k (i + 1) (omega (arith, all))) where
  by : (i < off) ⊎ (off ≤ i) → (b : Bool) → eqb (get_or s i 0) 10 ≡ b → (i + 1 ≤ off → Leads s off (i + 1) (feeds_from s (i + 1) k)) → Leads s off i (feeds_from s i (suc k))
  by (inr past) b is later = first_line s off i (feeds_from s i (suc k)) low (none_before s (suc k) i off past) (omega (arith, past))
  by (inl lt) true is later =
      let es = feeds_from s (i + 1) k in
      let at : get_or s i 0 ≡ 10 = eqb-true _ _ is in
      let within : i < length s = omega (arith, lt, le) in
      let more : line_at (i ∷ es) off ≡ 1 + line_at es off = counts i es off (lt-ltb i off lt) in
      let same : start_from i off (i ∷ es) ≡ start_from (i + 1) off es = begins es off i (lt-ltb i off lt) in
      let line : behind i (first_of_line (drop i s) (line_at (i ∷ es) off)) ≡ behind (i + 1) (first_of_line (drop (i + 1) s) (line_at es off)) =
      ap (λ n. behind i (first_of_line (drop i s) n)) more ∙ past_end s i (1 + line_at es off) within (omega arith) at ∙ ap (λ n. behind (i + 1) (first_of_line (drop (i + 1) s) n)) (omega arith) in
      subst (Leads s off i) (sym (feed_here s i k is)) (later_line s off i (i ∷ es) es same line (later (omega (arith, lt))))
  by (inl lt) false is later = subst (Leads s off i) (sym (other_here s i k is)) (turn (line_at (feeds_from s (i + 1) k) off) refl) where
    turn : (n : ℕ) → line_at (feeds_from s (i + 1) k) off ≡ n → Leads s off i (feeds_from s (i + 1) k)
    turn zero none =
        let all_none : line_at (feeds_from s i (suc k)) off ≡ 0 = ap (λ es. line_at es off) (other_here s i k is) ∙ none in
        first_line s off i (feeds_from s (i + 1) k) low none (reaches s off le (suc k) i all all_none)
    turn (suc n) some =
        let es = feeds_from s (i + 1) k in
        let least : 1 ≤ line_at es off = omega (arith, some) in
        let other : get_or s i 0 ≡ 10 → ⊥ = λ at. absurd (cc) in
        later_line s off i es es (forgets es off i (i + 1) least) (past_other s i (line_at es off) (omega (arith, lt, le)) least other) (later (omega (arith, lt)))

-- ---- offsets and spans

offset_again : (z : List ℕ) (off : ℕ) → off ≤ length z → offset_at z (line_at (feeds_of z) off) (column_at (feeds_of z) off) ≡ Some off
offset_again z off le =
    let whole : feeds_from z 0 (length z) ≡ feeds_of z = ap (feeds_from z 0) (omega arith) in
    let l : Leads z off 0 (feeds_of z) = subst (Leads z off 0) whole (leads z off le (length z) 0 (omega arith) (omega arith)) in
    let start = start_at (feeds_of z) off in
    let line : first_of_line z (line_at (feeds_of z) off) ≡ Some start = sym (behind_none (first_of_line z (line_at (feeds_of z) off))) ∙ l.line in
    let low : start ≤ off = l.low in
    let high : off ≤ start + len_of_line (drop start z) = l.high in
    let within : nat_le (off - start) (len_of_line (drop start z)) ≡ true = le-leb _ _ (omega (arith, low, high)) in
    ap (option_and_then (λ n. cond (nat_le (off - start) (len_of_line (drop n z))) (Some (n + (off - start))) None)) line
    ∙ ap (λ b. cond b (Some (start + (off - start))) None) within ∙ ap Some (omega (arith, low)) where
      behind_none : (o : Option ℕ) → behind 0 o ≡ o
      behind_none None = refl
      behind_none (Some n) = ap Some (omega arith)

bytes_again : (z : List ℕ) (start end l c m d : ℕ) → start ≤ end → offset_at z l c ≡ Some start → offset_at z m d ≡ Some end
    → option_and_then (λ x. option_and_then (range x) (offset_at z m d)) (offset_at z l c) ≡ Some (record { start = start; end = end })
bytes_again z start end l c m d le a b =
    ap (option_and_then (λ x. option_and_then (range x) (offset_at z m d))) a ∙ ap (option_and_then (range start)) b
    ∙ ap (λ (t : Bool). cond t (Some (record { start = start; end = end })) None) (le-leb start end le)

pub lead_back : (z : List ℕ) (start end : ℕ) → start ≤ end → end ≤ length z → option_and_then (bytes_at z) (span_of (span_at (feeds_of z) start end)) ≡ Some (record { start = start; end = end })
lead_back z start end le within = by (eqb (line_at (feeds_of z) start) (line_at (feeds_of z) end)) refl where
  first : offset_at z (line_at (feeds_of z) start) (column_at (feeds_of z) start) ≡ Some start
  first = offset_again z start (omega (arith, le, within))

  last : offset_at z (line_at (feeds_of z) end) (column_at (feeds_of z) end) ≡ Some end
  last = offset_again z end within

  by : (b : Bool) → eqb (line_at (feeds_of z) start) (line_at (feeds_of z) end) ≡ b → option_and_then (bytes_at z) (span_of (span_at (feeds_of z) start end)) ≡ Some (record { start = start; end = end })
  by true is =
      let same : line_at (feeds_of z) start ≡ line_at (feeds_of z) end = eqb-true _ _ is in
      rw is (bytes_again z start end (line_at (feeds_of z) start) (column_at (feeds_of z) start) (line_at (feeds_of z) start) (column_at (feeds_of z) end) le first
      (ap (λ n. offset_at z n (column_at (feeds_of z) end)) same ∙ last))
  by false is = rw is (bytes_again z start end (line_at (feeds_of z) start) (column_at (feeds_of z) start) (line_at (feeds_of z) end) (column_at (feeds_of z) end) le first last)
