-- Sums over all numbers of fields, where only the first few count.
use Rattle.std.proofs.Common.{◌≡◌, ◌⊎◌, inl, inr, ℕ, zero, suc, ◌+◌, ◌-◌, ◌<◌, ◌≤◌, ◌^◌, ◌==◌, ◌||◌, Bool, true, false, cond, List, [], ◌∷◌, ◌++◌, refl, ap, sym, ◌∙◌, arith}
use Rattle.std.specs.List.{flat_map, filter, list_any}
use Rattle.std.proofs.lemmas.Bool.{or_right}
use Rattle.std.proofs.lemmas.Bool.Decides.{eqb_tells}
use Rattle.text_model.proofs.Orders.{has}
use Rattle.protobuf_model.specs.Bytes.{count_from, field_numbers}

module _ {X : Type 0} (f : ℕ → List X) where
  none_from : (a k : ℕ) → ((n : ℕ) → a ≤ n → f n ≡ []) → flat_map f (count_from a k) ≡ []
  none_from a zero h = refl
  none_from a (suc k) h = ap (λ xs. xs ++ flat_map f (count_from (suc a) k)) (h a (omega arith)) ∙ none_from (suc a) k (λ n l. h n (omega arith))

  few_from : (a k j : ℕ) → ((n : ℕ) → a + k ≤ n → f n ≡ []) → flat_map f (count_from a (k + j)) ≡ flat_map f (count_from a k)
  few_from a zero j h = ap (λ n. flat_map f (count_from a n)) (let e : 0 + j ≡ j = omega arith in e) ∙ none_from a j (λ n l. h n (omega arith))
  few_from a (suc k) j h =
      ap (λ n. flat_map f (count_from a n)) (let e : suc k + j ≡ suc (k + j) = omega arith in e)
      ∙ ap (λ xs. f a ++ xs) (few_from (suc a) k j (λ n l. h n (omega arith)))

  pub first_few : (k j : ℕ) → k + j ≡ 2 ^ 29 - 1 → ((n : ℕ) → k < n → f n ≡ []) → flat_map f field_numbers ≡ flat_map f (count_from 1 k)
  unfolding field_numbers
  first_few k j e h = ap (λ n. flat_map f (count_from 1 n)) (let r : 2 ^ 29 - 1 ≡ k + j = omega (arith, e) in r) ∙ few_from 1 k j (λ n l. h n (omega arith))

  pub of_those : (test : ℕ → Bool) (ns : List ℕ) → flat_map f (filter test ns) ≡ flat_map (λ n. cond (test n) (f n) []) ns
  of_those test [] = refl
  of_those test (n ∷ ns) = by (test n) (of_those test ns) where
    by : (b : Bool) → flat_map f (filter test ns) ≡ flat_map (λ n. cond (test n) (f n) []) ns → flat_map f (cond b (n ∷ filter test ns) (filter test ns)) ≡ cond b (f n) [] ++ flat_map (λ n. cond (test n) (f n) []) ns
    by true e = ap (λ xs. f n ++ xs) e
    by false e = e

-- some number passes the test where this one does
pub any_there : (test : ℕ → Bool) (ns : List ℕ) (q : ℕ) → has ns q ≡ true → test q ≡ true → list_any test ns ≡ true
any_there test [] q h e = cc
any_there test (n ∷ ns) q h e = by (eqb_tells n q) (any_there test ns q) where
  by : (((n == q) ≡ true) × (n ≡ q)) ⊎ (((n == q) ≡ false) × (n ≡ q → ⊥)) → (has ns q ≡ true → test q ≡ true → list_any test ns ≡ true) → (test n || list_any test ns) ≡ true
  by (inl k) later = ap (λ b. b || list_any test ns) (ap test k.1 ∙ e)
  by (inr k) later = or_right (test n) (list_any test ns) (later (ap (λ b. b || has ns q) (sym k.0) ∙ h) e)
