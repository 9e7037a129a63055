-- The places of a byte in a text ascend.
use Rattle.std.proofs.Common.{ℕ, zero, suc, ◌+◌, ◌-◌, ◌≤◌, ◌<◌, Bool, true, false, cond, List, [], ◌∷◌, length, get_or, arith}
use Rattle.std.specs.List.Sorted.{IsNonDecreasing}
use Rattle.memchr.specs.Find.{places_from, places}

-- each place is at least i, and no later one is less
record Ascends (i : ℕ) (ps : List ℕ) : Type 0 where
  low : (k d : ℕ) → k < length ps → i ≤ get_or ps k d
  rising : (j k d : ℕ) → j ≤ k → k < length ps → get_or ps j d ≤ get_or ps k d

none : (i : ℕ) → Ascends i []
none i = record { low = λ k d lt. absurd (omega arith); rising = λ j k d le lt. absurd (omega arith) }

one_more : (i : ℕ) (ps : List ℕ) → Ascends (i + 1) ps → Ascends i (i ∷ ps)
one_more i ps h = record { low = low; rising = rising } where
  low : (k d : ℕ) → k < length (i ∷ ps) → i ≤ get_or (i ∷ ps) k d
  low zero d lt = omega arith
  low (suc k) d lt = omega (arith, h.low k d (omega arith))

  rising : (j k d : ℕ) → j ≤ k → k < length (i ∷ ps) → get_or (i ∷ ps) j d ≤ get_or (i ∷ ps) k d
  rising zero k d le lt = low k d lt
  rising (suc j) zero d le lt = absurd (omega arith)
  rising (suc j) (suc k) d le lt = h.rising j k d (omega arith) (omega arith)

skipped : (i : ℕ) (ps : List ℕ) → Ascends (i + 1) ps → Ascends i ps
skipped i ps h = record { low = λ k d lt. omega (arith, h.low k d lt); rising = h.rising }

module _ (test : ℕ → Bool) (hay : List ℕ) where
  ascends : (i n : ℕ) → Ascends i (places_from test hay i n)
  unfolding places_from
  ascends i zero = none i
  ascends i (suc n) = elim (test (get_or hay i 0)) as (λ v. Ascends i (cond v (i ∷ places_from test hay (i + 1) n) (places_from test hay (i + 1) n))) [
    | true ↦ one_more i _ (ascends (i + 1) n)
    | false ↦ skipped i _ (ascends (i + 1) n)
  ]

  pub ascending : IsNonDecreasing (places test hay)
  ascending = λ j k d le lt. (ascends 0 (length hay - 0)).rising j k d le lt
