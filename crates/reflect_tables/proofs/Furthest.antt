-- Ranges by ascending start: which have a number.
use Rattle.std.proofs.Common.{◌≡◌, ◌⊎◌, ℕ, ℤ, zero, suc, false, [], ◌∷◌, ◌++◌, ◌+◌, ◌-◌, ◌<◌, ◌≤◌, ◌≤ℤ◌, ◌<ℤ◌, List, IsPermutation, length, map, take, slice_index_or, refl, sym, ap, ◌∙◌, subst, arith, ⊎_elim, true, int_le}
use Rattle.std.proofs.lemmas.Bool.Decides.{leb_tells}
use Rattle.std.proofs.lemmas.Int.{ints, by_lt_z}
use Rattle.std.proofs.lemmas.List.{get_or-map, length-map, get_or_append_left, get_or-append-add}
use Rattle.std.proofs.lemmas.List.{take_all}
use Rattle.std.proofs.lemmas.List.Sorted.{IsPermutation-map}
use Rattle.std.specs.List.Sorted.{IsSortedByKey, IsPartitionPoint}
use Rattle.std.specs.Ordering.{int_cmp, is_lt}
use Rattle.std.specs.List.{All}
use Rattle.reflect_tables.specs.Furthest.{RiseByStart, EndsLast, no_range}
use Rattle.reflect_tables.specs.Ranges.{Range, IsIn}
use Rattle.reflect_tables.specs.declared.ranges.NumberRange.{NumberRange}

abbrev pub pair_of : NumberRange → Range
pair_of x = (x.start, x.end)

-- none of the pairs has the number where none of the ranges has it
pub none_of : (rs : List NumberRange) (n : ℤ) (e : NumberRange) → ((k : ℕ) → k < length rs → IsIn n (pair_of (slice_index_or rs k e)) → ⊥) → All (λ r. IsIn n r → ⊥) (map pair_of rs)
none_of rs n e h k d lt is =
    let short : k < length rs = omega (arith, lt, length-map rs pair_of) in
    h k short (subst (IsIn n) (get_or-map pair_of rs k e d short) is)

pub any_default : (rs : List NumberRange) (k : ℕ) (d e : NumberRange) → k < length rs → slice_index_or rs k d ≡ slice_index_or rs k e
any_default [] k d e lt = absurd (omega (arith, lt))
any_default (r ∷ rs) zero d e lt = refl
any_default (r ∷ rs) (suc k) d e lt = any_default rs k d e (omega (arith, lt))

-- a range of the list is one of its pairs
pub among : (rs : List NumberRange) (k : ℕ) (d : NumberRange) (r : Range) → k < length rs → pair_of (slice_index_or rs k d) ≡ r → (x : ℕ) × (x < length (map pair_of rs)) × (slice_index_or (map pair_of rs) x r ≡ r)
among rs k d r lt is = (k, omega (arith, length-map rs pair_of), get_or-map pair_of rs k d r lt ∙ is)

-- those from a place on begin behind the number, and those before it end before it
pub none_here : (rs : List NumberRange) (n : ℤ) (behind place : ℕ) → EndsLast rs (behind - 1) place → 0 < behind
    → ((k : ℕ) (d : NumberRange) → behind ≤ k → k < length rs → n <ℤ (slice_index_or rs k d).start)
    → (slice_index_or rs place no_range).end ≤ℤ n → (k : ℕ) → k < length rs → IsIn n (pair_of (slice_index_or rs k no_range)) → ⊥
none_here rs n behind place last some later ended k lt is =
    ⊎_elim
    (λ t. let starts = later k no_range t.1 lt in let begins = is.0 in omega (arith, ints, starts, begins))
    (λ t. let before = last.1 k (omega (arith, t.1, some)) in let ends = is.1 in omega (arith, ints, before, ended, ends))
    (leb_tells behind k)

-- what does not fall from each range to the next does not fall at all
pub rises : (rs : List NumberRange) → ((k : ℕ) (d : NumberRange) → k + 1 < length rs → (slice_index_or rs k d).start ≤ℤ (slice_index_or rs (k + 1) d).start) → RiseByStart rs
rises rs next i j d le lt =
    let e : i + (j - i) ≡ j = omega (arith, le) in
    subst (λ k. (slice_index_or rs i d).start ≤ℤ (slice_index_or rs k d).start) e (far (j - i) (omega (arith, e, lt)))
  where
    far : (n : ℕ) → i + n < length rs → (slice_index_or rs i d).start ≤ℤ (slice_index_or rs (i + n) d).start
    far zero h = let same : i + 0 ≡ i = omega arith in rw same (omega (arith, ints))
    far (suc n) h =
        let one : i + n + 1 ≡ i + suc n = omega arith in
        let before = far n (omega (arith, h)) in
        let step = next (i + n) d (omega (arith, h)) in
        rw (← one) (omega (arith, ints, before, step))

pub from_sort : (rs : List NumberRange) → IsSortedByKey (λ r. r.start) int_cmp rs → RiseByStart rs
from_sort rs up = rises rs (λ k d lt. let a = (slice_index_or rs k d).start in let b = (slice_index_or rs (k + 1) d).start in let not_less = up k d (omega (arith, lt)) lt in not_below a b not_less)
  where
    not_below : (a b : ℤ) → is_lt (int_cmp b a) ≡ false → a ≤ℤ b
    not_below a b h = by_lt_z b a (λ lt. absurd (grind (arith, ints, lt, h))) (λ le. le)

last_of : (ps : List ℕ) (last d : ℕ) → slice_index_or (ps ++ last ∷ []) (length ps) d ≡ last
last_of ps last d = let e : length ps ≡ length ps + 0 = omega arith in ap (λ k. slice_index_or (ps ++ last ∷ []) k d) e ∙ get_or-append-add ps (last ∷ []) 0 d

-- the later of two places, the first of which ends last of those before the second
pub still_last : (rs : List NumberRange) (at last next : ℕ) → last ≤ at → ((j : ℕ) → j < at → (slice_index_or rs j no_range).end ≤ℤ (slice_index_or rs last no_range).end)
    → (next ≡ last) ⊎ (next ≡ at) → (slice_index_or rs last no_range).end ≤ℤ (slice_index_or rs next no_range).end → (slice_index_or rs at no_range).end ≤ℤ (slice_index_or rs next no_range).end → EndsLast rs at next
still_last rs at last next le before which first second = (
  ⊎_elim (λ e. omega (arith, e, le)) (λ e. omega (arith, e)) which,
  λ j h. ⊎_elim
      (λ t. let same : j ≡ at = omega (arith, t.1, h) in rw same second)
      (λ t. let one = before j t.1 in omega (arith, ints, one, first))
      (leb_tells at j),
)

-- one more place
pub one_more : (rs : List NumberRange) (ps : List ℕ) (at last : ℕ) → length ps ≡ at → ((i d : ℕ) → i < at → EndsLast rs i (slice_index_or ps i d)) → EndsLast rs at last → (i d : ℕ) → i < at + 1 → EndsLast rs i (slice_index_or (ps ++ last ∷ []) i d)
one_more rs ps at last e so here i d lt =
    ⊎_elim
    (λ t. let same : i ≡ at = omega (arith, t.1, lt) in
    rw (same, ← e) (rw (last_of ps last d) (subst (λ n. EndsLast rs n last) (sym e) here)))
    (λ t. rw (get_or_append_left ps (last ∷ []) d i (omega (arith, e, t.1))) (so i d t.1))
    (leb_tells at i)

pub up_to_rises : (rs : List NumberRange) (n : ℤ) → RiseByStart rs → (i j : ℕ) (d : NumberRange) → i ≤ j → j < length rs → int_le (slice_index_or rs j d).start n ≡ true → int_le (slice_index_or rs i d).start n ≡ true
up_to_rises rs n up i j d le lt e = let rise = up i j d le lt in below (slice_index_or rs i d).start (slice_index_or rs j d).start rise e
  where
    below : (a b : ℤ) → a ≤ℤ b → int_le b n ≡ true → int_le a n ≡ true
    below a b rise e = grind (arith, ints, rise, e)

-- what the two sides of the number say
pub begins_behind : (rs : List NumberRange) (n : ℤ) (behind : ℕ) → IsPartitionPoint (λ r. int_le r.start n ≡ true) (λ r. int_le r.start n ≡ false) rs behind → (k : ℕ) (d : NumberRange) → behind ≤ k → k < length rs → n <ℤ (slice_index_or rs k d).start
begins_behind rs n behind p k d le lt = let e = p.1 k d le lt in above (slice_index_or rs k d).start e
  where
    above : (a : ℤ) → int_le a n ≡ false → n <ℤ a
    above a e = by_lt_z n a (λ h. h) (λ h. absurd (grind (arith, ints, h, e)))

pub begins_before : (rs : List NumberRange) (n : ℤ) (behind : ℕ) → IsPartitionPoint (λ r. int_le r.start n ≡ true) (λ r. int_le r.start n ≡ false) rs behind → (k : ℕ) (d : NumberRange) → k < behind → (slice_index_or rs k d).start ≤ℤ n
begins_before rs n behind p k d lt = let e = p.0 k d (omega arith) lt in upto (slice_index_or rs k d).start e
  where
    upto : (a : ℤ) → int_le a n ≡ true → a ≤ℤ n
    upto a e = by_lt_z n a (λ h. absurd (grind (arith, ints, h, e))) (λ h. h)

-- sorted ranges are those of the records in some order
pub from_records : {X : Type 0} (f : X → Range) (rs : List X) (n : ℕ) (made sorted : List NumberRange) → length rs ≤ n → map pair_of made ≡ map f (take n rs) → IsPermutation made sorted → IsPermutation (map f rs) (map pair_of sorted)
from_records f rs n made sorted all each moved =
    subst (λ xs. IsPermutation xs (map pair_of sorted)) (each ∙ ap (map f) (take_all n rs all)) (IsPermutation-map pair_of made sorted moved)
