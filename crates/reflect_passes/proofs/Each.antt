-- Lists whose elements are changed one after the other.
use Rattle.std.proofs.Common.{◌≡◌, ℕ, zero, suc, ◌<◌, List, [], ◌∷◌, ◌++◌, map, take, drop, get_or, set, length, ap, arith}

-- the next one is changed
pub one_more : {A : Type 0} (f : A → A) (xs : List A) (k : ℕ) (d y : A) → k < length xs
    → y ≡ f (get_or (map f (take k xs) ++ drop k xs) k d)
    → set (map f (take k xs) ++ drop k xs) k y ≡ map f (take (suc k) xs) ++ drop (suc k) xs
one_more f [] k d y lt e = absurd (omega (arith, lt))
one_more f (x ∷ xs) zero d y lt e = ap (λ a. a ∷ xs) e
one_more f (x ∷ xs) (suc k) d y lt e = ap (λ l. f x ∷ l) (one_more f xs k d y (omega (arith, lt)) e)
