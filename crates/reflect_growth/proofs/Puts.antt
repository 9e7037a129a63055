-- Entries that edits put something into.
use Rattle.std.proofs.Common.{◌≡◌, ◌≤◌, ℕ, zero, suc, List, [], ◌∷◌, length, map, get_or, set, ap, refl, arith}
use Rattle.reflect_growth.specs.Put.{with_at}

-- an entry is replaced by one that is seen as its other form
pub put_at : {X A : Type 0} (f : X → A) (h : A → A) (xs : List X) (k : ℕ) (y d : X)
    → f y ≡ h (f (get_or xs k d)) → map f (set xs k y) ≡ with_at k h (map f xs)
put_at f h [] k y d e = refl
put_at f h (x ∷ xs) zero y d e = ap (λ a. a ∷ map f xs) e
put_at f h (x ∷ xs) (suc k) y d e = ap (λ l. f x ∷ l) (put_at f h xs k y d e)

-- there is no entry at the place
pub put_past : {X A : Type 0} (f : X → A) (h : A → A) (xs : List X) (k : ℕ) → length xs ≤ k
    → map f xs ≡ with_at k h (map f xs)
put_past f h [] k le = refl
put_past f h (x ∷ xs) zero le = absurd (omega (arith, le))
put_past f h (x ∷ xs) (suc k) le =
    ap (λ l. f x ∷ l) (put_past f h xs k (omega (arith, le)))
