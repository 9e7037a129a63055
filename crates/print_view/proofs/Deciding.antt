-- What is decided: it holds, or it does not.
use Rattle.std.proofs.Common.{◌≡◌, ◌⊎◌, inl, inr, ℕ, ◌<◌, ◌≤◌, Bool, true, false, List, [], ◌∷◌, refl, arith}
use Rattle.std.proofs.lemmas.Bool.{cases_lt}
use Rattle.std.specs.List.{AllByRecursion}

abbrev pub Decided : Type 0 → Type 0
Decided P = P ⊎ (P → ⊥)

pub both_or_not : {P Q : Type 0} → Decided P → Decided Q → Decided (P × Q)
both_or_not (inl p) (inl q) = inl (p, q)
both_or_not (inl p) (inr never) = inr (λ h. never h.1)
both_or_not (inr never) d = inr (λ h. never h.0)

pub all_three_or_not : {P Q R : Type 0} → Decided P → Decided Q → Decided R → Decided (P × Q × R)
all_three_or_not (inl p) (inl q) (inl r) = inl (p, q, r)
all_three_or_not (inl p) (inl q) (inr never) = inr (λ h. never h.2)
all_three_or_not (inl p) (inr never) d = inr (λ h. never h.1)
all_three_or_not (inr never) d e = inr (λ h. never h.0)

pub all_four_or_not : {P Q R S : Type 0} → Decided P → Decided Q → Decided R → Decided S → Decided (P × Q × R × S)
all_four_or_not (inl p) (inl q) (inl r) (inl s) = inl (p, q, r, s)
all_four_or_not (inl p) (inl q) (inl r) (inr never) = inr (λ h. never h.3)
all_four_or_not (inl p) (inl q) (inr never) d = inr (λ h. never h.2)
all_four_or_not (inl p) (inr never) d e = inr (λ h. never h.1)
all_four_or_not (inr never) d e f = inr (λ h. never h.0)

-- what says the same is decided too
pub as_or_not : {P Q : Type 0} → (P → Q) → (Q → P) → Decided P → Decided Q
as_or_not f g (inl p) = inl (f p)
as_or_not f g (inr never) = inr (λ q. never (g q))

pub less_or_not : (m n : ℕ) → Decided (m < n)
less_or_not m n = by (cases_lt m n) where
  by : (m < n) ⊎ (n ≤ m) → Decided (m < n)
  by (inl lt) = inl lt
  by (inr ge) = inr (λ lt. omega (arith, lt, ge))

pub true_or_not : (b : Bool) → Decided (b ≡ true)
true_or_not true = inl refl
true_or_not false = inr (λ e. cc)

pub all_or_not : {X : Type 0} (P : X → Type 0) → ((x : X) → Decided (P x)) → (xs : List X) → Decided (AllByRecursion P xs)
all_or_not P each [] = inl tt
all_or_not P each (x ∷ xs) = both_or_not (each x) (all_or_not P each xs)
