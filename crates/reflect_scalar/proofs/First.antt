-- The first of a list that passes a test, and the first with a property.
use Rattle.std.proofs.Common.{◌≡◌, ℕ, ◌<◌, ◌≤◌, suc, zero, Bool, true, false, cond, List, [], ◌∷◌, Some, None, refl, sym, ap, ◌∙◌, arith}
use Rattle.std.specs.Prelude.{slice_index_or}
use Rattle.reflect_tables.specs.Finding.{IsFirst}
use Rattle.std.specs.List.{find}

hit : {X : Type 0} → (b : Bool) (x y : X) → b ≡ true → cond b x y ≡ x
hit b x y e = ap (λ b. cond b x y) e

miss : {X : Type 0} → (b : Bool) (x y : X) → b ≡ false → cond b x y ≡ y
miss b x y e = ap (λ b. cond b x y) e

not_true : (b : Bool) → (b ≡ true → ⊥) → b ≡ false
not_true true h = absurd (h refl)
not_true false h = refl

-- the test says whether the property holds
pub record Tells {X : Type 0} (P : X → Type 0) (test : X → Bool) : Type 0 where
  pub says : (x : X) → test x ≡ true → P x
  pub passes : (x : X) → P x → test x ≡ true

module _ {X : Type 0} (P : X → Type 0) (test : X → Bool) (t : Tells P test) where
  fails : (x : X) → (P x → ⊥) → test x ≡ false
  fails x h = not_true (test x) (λ e. h (t.says x e))

  pub find_none : (xs : List X) → IsFirst P xs None → find test xs ≡ None
  find_none [] h = refl
  find_none (x ∷ xs) h = miss (test x) (Some x) (find test xs) (fails x (h 0 x (omega arith))) ∙ find_none xs (λ k d lt. h (suc k) d (omega (arith, lt)))

  pub find_some : (xs : List X) (d : X) (k : ℕ) → IsFirst P xs (Some k) → find test xs ≡ Some (slice_index_or xs k d)
  find_some [] d k h = absurd (omega (arith, h.0))
  find_some (x ∷ xs) d zero h = hit (test x) (Some x) (find test xs) (t.passes x (h.1.0 x))
  find_some (x ∷ xs) d (suc k) h =
      miss (test x) (Some x) (find test xs) (fails x (h.1.1 0 x (omega arith) (omega arith)))
      ∙ find_some xs d k (omega (arith, h.0), ((λ e. h.1.0 e), λ j e low lt. h.1.1 (suc j) e (omega arith) (omega (arith, lt))))

  behind : (x : X) (xs : List X) (d : X) → test x ≡ false → (k : ℕ) × IsFirst P xs (Some k) × ((d : X) → find test xs ≡ Some (slice_index_or xs k d)) → (k : ℕ) × IsFirst P (x ∷ xs) (Some k) × ((d : X) → find test xs ≡ Some (slice_index_or (x ∷ xs) k d))
  behind x xs d e r = (suc r.0, (omega (arith, r.1.0), ((λ d. r.1.1.0 d), before)), λ d. r.2 d) where
    before : (k : ℕ) (d : X) → 0 ≤ k → k < suc r.0 → P (slice_index_or (x ∷ xs) k d) → ⊥
    before zero d low lt h = absurd (cc (e, t.passes x h))
    before (suc k) d low lt h = r.1.1.1 k d (omega arith) (omega (arith, lt)) h

  -- what passes first stands at the place of the first
  pub find_place : (xs : List X) (x : X) → find test xs ≡ Some x → (k : ℕ) × IsFirst P xs (Some k) × ((d : X) → find test xs ≡ Some (slice_index_or xs k d))
  find_place [] x e = absurd (cc e)
  find_place (y ∷ ys) x e = by (test y) refl (find_place ys x) where
    by : (b : Bool) → test y ≡ b → (find test ys ≡ Some x → (k : ℕ) × IsFirst P ys (Some k) × ((d : X) → find test ys ≡ Some (slice_index_or ys k d)))
        → (k : ℕ) × IsFirst P (y ∷ ys) (Some k) × ((d : X) → find test (y ∷ ys) ≡ Some (slice_index_or (y ∷ ys) k d))
    by true f more = (0, (omega arith, ((λ d. t.says y f), λ k d low lt. absurd (omega (arith, lt)))), λ d. hit (test y) (Some y) (find test ys) f)
    by false f more =
        let skip = miss (test y) (Some y) (find test ys) f in
        let r = behind y ys y f (more (sym skip ∙ e)) in
        (r.0, r.1, λ d. skip ∙ r.2 d)
