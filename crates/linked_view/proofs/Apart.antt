-- Where no number repeats another, each stands at one place.
use Rattle.std.proofs.Common.{◌≡◌, ◌⊎◌, inl, inr, ◌+◌, ◌<◌, ◌≤◌, ◌||◌, ℕ, zero, suc, ℤ, Bool, true, false, cond, List, [], ◌∷◌, take, Option, Some, refl, ap, ◌∙◌, subst, arith, slice_get}
use Rattle.std.proofs.lemmas.Bool.{cases_lt}
use Rattle.std.proofs.lemmas.Bool.Decides.{Decides-int_eq}
use Rattle.std.specs.List.{list_any}
use Rattle.reflect_declarations.specs.Declarations.{each}
use Rattle.reflect_faults.specs.Faults.{Fault, Place}
use Rattle.reflect_names.specs.Names.{Places}
use Rattle.reflect_rules.specs.Repeats.{is_number, repeat_at, repeats, listed, repeat_faults}
use Rattle.reflect_build.proofs.Rules.{none_both}

-- where nothing is found of elements, nothing is found of the one at a place
none_at : {A X : Type 0} (one : ℕ → A → List X) (k : ℕ) (xs : List A) (j n : ℕ) (x : A)
    → each one k xs ≡ [] → slice_get xs j ≡ Some x → n ≡ k + j → one n x ≡ []
none_at one k [] j n x none at is = absurd (cc at)
none_at one k (y ∷ xs) zero n x none at is =
    let same : y ≡ x = cc at in
    let place : k ≡ n = omega (arith, is) in
    subst (λ z. one n z ≡ []) same
    (subst (λ m. one m y ≡ []) place (none_both (one k y) (each one (k + 1) xs) none).0)
none_at one k (y ∷ xs) (suc j) n x none at is =
    none_at one (k + 1) xs j n x (none_both (one k y) (each one (k + 1) xs) none).1 at
    (omega (arith, is))

or_true : (a b : Bool) → b ≡ true → (a || b) ≡ true
or_true true b e = refl
or_true false b e = e

-- a number is among the first ones
among_first : (n : ℤ) (ns : List (Option ℤ)) (j k : ℕ) → slice_get ns j ≡ Some (Some n) → j < k
    → list_any (is_number n) (take k ns) ≡ true
among_first n [] j k at lt = absurd (cc at)
among_first n (o ∷ ns) zero (suc k) at lt =
    let same : o ≡ Some n = cc at in
    ap (λ x. is_number n x || list_any (is_number n) (take k ns)) same
    ∙ ap (λ b. b || list_any (is_number n) (take k ns)) ((Decides-int_eq n n).1 refl)
among_first n (o ∷ ns) (suc j) (suc k) at lt =
    or_true (is_number n o) (list_any (is_number n) (take k ns))
    (among_first n ns j k at (omega (arith, lt)))
among_first n (o ∷ ns) j zero at lt = absurd (omega (arith, lt))

unmarked : {X : Type 0} (b : Bool) (x : X) → cond b (x ∷ []) [] ≡ [] → b ≡ true → ⊥
unmarked true x e is = absurd (cc e)
unmarked false x e is = absurd (cc is)

module _ (fault : ℤ → Place → Fault) (tag number : ℤ) (path : List ℤ) (at : Places)
    (ns : List (Option ℤ)) (none : repeat_faults fault tag number path at ns ≡ []) where
  none_listed : (rs : List (ℕ × ℤ)) → listed fault tag number path at rs ≡ [] → rs ≡ []
  none_listed [] e = refl
  none_listed (r ∷ rs) e = absurd (cc e)

  never_before : (j k : ℕ) (n : ℤ) → slice_get ns j ≡ Some (Some n) → slice_get ns k ≡ Some (Some n)
      → j < k → ⊥
  never_before j k n first second lt =
      unmarked (list_any (is_number n) (take k ns)) (k, n)
      (none_at (repeat_at ns) 0 ns k k (Some n) (none_listed (repeats ns) none) second
      (omega arith)) (among_first n ns j k first lt)

  pub one_place : (j k : ℕ) (n : ℤ) → slice_get ns j ≡ Some (Some n)
      → slice_get ns k ≡ Some (Some n) → j ≡ k
  one_place j k n first second = by (cases_lt j k) (cases_lt k j) where
    by : (j < k) ⊎ (k ≤ j) → (k < j) ⊎ (j ≤ k) → j ≡ k
    by (inl lt) other = absurd (never_before j k n first second lt)
    by (inr le) (inl lt) = absurd (never_before k j n second first lt)
    by (inr le) (inr ge) = omega (arith, le, ge)
