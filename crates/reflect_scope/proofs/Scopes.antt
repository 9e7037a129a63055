-- The scopes around a scope.
use Rattle.std.proofs.Common.{◌≡◌, ◌≢◌, ℕ, zero, suc, ◌<◌, ◌≤◌, ◌+◌, List, [], ◌∷◌, true, false, cond, ◌||◌, eqb, length, take, get_or, refl, ap, arith}
use Rattle.reflect_scope.specs.Means.{has_dot, outer, scopes_in, scopes}

pub no_dot : (bs : List ℕ) → ((i : ℕ) → i < length bs → get_or bs i 0 ≢ 46) → has_dot bs ≡ false
no_dot [] none = refl
no_dot (b ∷ bs) none =
    let first : eqb b 46 ≡ false = grind (arith, none 0) in
    let rest : has_dot bs ≡ false = no_dot bs (λ i lt. none (suc i) (omega arith)) in
    rw (first, rest) refl

pub some_dot : (bs : List ℕ) (k : ℕ) → k < length bs → get_or bs k 0 ≡ 46 → has_dot bs ≡ true
some_dot [] k lt e = absurd (omega arith)
some_dot (b ∷ bs) zero lt e = rw e refl
some_dot (b ∷ bs) (suc k) lt e =
    let rest : has_dot bs ≡ true = some_dot bs k (omega arith) e in
    elim (eqb b 46) as (λ v. (v || has_dot bs) ≡ true) [ true ↦ refl | false ↦ rest ]

pub outer_at : (bs : List ℕ) (k : ℕ) → k < length bs → get_or bs k 0 ≡ 46 → ((i : ℕ) → k < i → i < length bs → get_or bs i 0 ≢ 46) → take k bs ≡ outer bs
outer_at [] k lt e last = absurd (omega arith)
outer_at (b ∷ bs) zero lt e last =
    let none : has_dot bs ≡ false = no_dot bs (λ i l. last (suc i) (omega arith) (omega arith)) in
    rw none refl
outer_at (b ∷ bs) (suc k) lt e last =
    let some : has_dot bs ≡ true = some_dot bs k (omega arith) e in
    rw some (ap (λ xs. b ∷ xs) (outer_at bs k (omega arith) e (λ i l m. last (suc i) (omega arith) (omega arith))))

pub outer_none : (bs : List ℕ) → ((i : ℕ) → i < length bs → get_or bs i 0 ≢ 46) → outer bs ≡ []
outer_none [] none = refl
outer_none (b ∷ bs) none =
    let rest : has_dot bs ≡ false = no_dot bs (λ i lt. none (suc i) (omega arith)) in
    rw rest refl

pub outer_shorter : (b : ℕ) (bs : List ℕ) → length (outer (b ∷ bs)) ≤ length bs
outer_shorter b [] = omega arith
outer_shorter b (c ∷ bs) =
    let rest = outer_shorter c bs in
    let inner : 1 + length (outer (c ∷ bs)) ≤ length (c ∷ bs) = omega arith in
    elim (has_dot (c ∷ bs)) as (λ v. length (cond v (b ∷ outer (c ∷ bs)) []) ≤ length (c ∷ bs)) [ true ↦ omega arith | false ↦ omega arith ]

enough : (n m : ℕ) (s : List ℕ) → length s ≤ n → length s ≤ m → scopes_in n s ≡ scopes_in m s
enough n m [] h k = refl
enough zero m (b ∷ bs) h k = absurd (omega arith)
enough (suc n) zero (b ∷ bs) h k = absurd (omega arith)
enough (suc n) (suc m) (b ∷ bs) h k = let short = outer_shorter b bs in ap (λ ss. (b ∷ bs) ∷ ss) (enough n m (outer (b ∷ bs)) (omega arith) (omega arith))

pub scopes_more : (b : ℕ) (bs : List ℕ) → scopes (b ∷ bs) ≡ (b ∷ bs) ∷ scopes (outer (b ∷ bs))
unfolding scopes
scopes_more b bs = let short = outer_shorter b bs in ap (λ ss. (b ∷ bs) ∷ ss) (enough (length bs) (length (outer (b ∷ bs))) (outer (b ∷ bs)) short (omega arith))

pub scopes_last : scopes [] ≡ [] ∷ []
unfolding scopes
scopes_last = refl

-- by the test that the code makes
pub scopes_around : (s : List ℕ) → (length s ≡ 0 → ⊥) → scopes s ≡ s ∷ scopes (outer s)
scopes_around [] some = absurd (some refl)
scopes_around (b ∷ bs) some = scopes_more b bs

pub scopes_empty : (s : List ℕ) → length s ≡ 0 → scopes s ≡ s ∷ []
scopes_empty [] e = scopes_last
scopes_empty (b ∷ bs) e = absurd (omega arith)

pub outer_less : (s : List ℕ) → (length s ≡ 0 → ⊥) → length (outer s) < length s
outer_less [] some = absurd (some refl)
outer_less (b ∷ bs) some = let short = outer_shorter b bs in omega arith
