-- Line feeds before an offset, where they are the first ones of a list.
use Rattle.std.proofs.Common.{◌≡◌, ℕ, zero, suc, ◌+◌, ◌≤◌, ◌<◌, cond, List, [], ◌∷◌, fold, get_or, length, ap, ◌∙◌, arith, refl}
use Rattle.std.specs.Prelude.{nat_lt}
use Rattle.std.proofs.lemmas.Bool.{le-ltb, lt-ltb}
use Rattle.std.proofs.lemmas.List.Sums.{sum_by-cons}
use Rattle.protox_lex.specs.Lines.{line_at, later_start, start_at}

-- the first k feeds lie before the offset, and no other one
pub record Parts (es : List ℕ) (offset k : ℕ) : Type 0 where
  pub within : k ≤ length es
  pub before : (j : ℕ) → j < k → get_or es j 0 < offset
  pub behind : (j : ℕ) → k ≤ j → j < length es → offset ≤ get_or es j 0

tail_none : (e : ℕ) (es : List ℕ) (offset : ℕ) → Parts (e ∷ es) offset 0 → Parts es offset 0
tail_none e es offset h = record { within = omega arith; before = λ j lt. absurd (omega arith); behind = λ j le lt. h.behind (suc j) (omega arith) (omega arith) }

tail_one : (e : ℕ) (es : List ℕ) (offset k : ℕ) → Parts (e ∷ es) offset (suc k) → Parts es offset k
tail_one e es offset k h = record {
  within = omega (arith, h.within);
  before = λ j lt. h.before (suc j) (omega arith);
  behind = λ j le lt. h.behind (suc j) (omega arith) (omega arith);
}

one_more : (e : ℕ) (es : List ℕ) (offset : ℕ) → line_at (e ∷ es) offset ≡ cond (nat_lt e offset) 1 0 + line_at es offset
one_more e es offset = sum_by-cons (λ x. cond (nat_lt x offset) 1 0) e es

pub line_is : (es : List ℕ) (offset k : ℕ) → Parts es offset k → line_at es offset ≡ k
line_is [] offset k h = omega (arith, h.within)
line_is (e ∷ es) offset zero h =
    let f : line_at (e ∷ es) offset ≡ 0 + line_at es offset = one_more e es offset ∙ ap (λ b. cond b 1 0 + line_at es offset) (le-ltb e offset (h.behind 0 (omega arith) (omega arith))) in
    omega (arith, f, line_is es offset 0 (tail_none e es offset h))
line_is (e ∷ es) offset (suc k) h =
    let f : line_at (e ∷ es) offset ≡ 1 + line_at es offset = one_more e es offset ∙ ap (λ b. cond b 1 0 + line_at es offset) (lt-ltb e offset (h.before 0 (omega arith))) in
    omega (arith, f, line_is es offset k (tail_one e es offset k h))

none : (es : List ℕ) (offset s : ℕ) → Parts es offset 0 → fold (later_start offset) s es ≡ s
none [] offset s h = refl
none (e ∷ es) offset s h = rw (le-ltb e offset (h.behind 0 (omega arith) (omega arith))) (none es offset s (tail_none e es offset h))

some : (es : List ℕ) (offset s k : ℕ) → Parts es offset (suc k) → fold (later_start offset) s es ≡ get_or es k 0 + 1
some [] offset s k h = absurd (omega (arith, h.within))
some (e ∷ es) offset s zero h = rw (lt-ltb e offset (h.before 0 (omega arith))) (none es offset (e + 1) (tail_one e es offset 0 h))
some (e ∷ es) offset s (suc k) h = rw (lt-ltb e offset (h.before 0 (omega arith))) (some es offset (e + 1) k (tail_one e es offset (suc k) h))

pub start_none : (es : List ℕ) (offset : ℕ) → Parts es offset 0 → start_at es offset ≡ 0
start_none es offset h = none es offset 0 h

pub start_some : (es : List ℕ) (offset k : ℕ) → Parts es offset (suc k) → start_at es offset ≡ get_or es k 0 + 1
start_some es offset k h = some es offset 0 k h
