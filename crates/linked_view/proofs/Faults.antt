-- Lists of faults that are empty.
use Rattle.std.proofs.Common.{◌≡◌, ◌+◌, ◌∙◌, inl, inr, ℕ, Bool, true, false, cond, List, [], ◌∷◌, ◌++◌, ap, subst, refl}
use Rattle.std.specs.List.{Contains}
use Rattle.reflect_declarations.specs.Declarations.{each}
pub use Rattle.reflect_build.proofs.Rules.{none_both}
use Rattle.schema_view.proofs.Lists.{contains_here, contains_there, contains_cases, contains_none}

pub both_none : {X : Type 0} (a b : List X) → a ≡ [] → b ≡ [] → a ++ b ≡ []
both_none a b e f = ap (λ xs. xs ++ b) e ∙ f

-- a fault where a test fails, or where it does not
pub unless_to : {X : Type 0} (b : Bool) (x : X) → cond b [] (x ∷ []) ≡ [] → b ≡ true
unless_to true x e = refl
unless_to false x e = absurd (cc e)

pub unless_from : {X : Type 0} (b : Bool) (x : X) → b ≡ true → cond b [] (x ∷ []) ≡ []
unless_from b x e = ap (λ v. cond v [] (x ∷ [])) e

pub when_to : {X : Type 0} (b : Bool) (x : X) → cond b (x ∷ []) [] ≡ [] → b ≡ false
when_to true x e = absurd (cc e)
when_to false x e = refl

pub when_from : {X : Type 0} (b : Bool) (x : X) → b ≡ false → cond b (x ∷ []) [] ≡ []
when_from b x e = ap (λ v. cond v (x ∷ []) []) e

-- no element has a fault, at whatever place
pub each_to : {A X : Type 0} (one : ℕ → A → List X) (P : A → Type 0)
    → ((k : ℕ) (x : A) → one k x ≡ [] → P x) → (k : ℕ) (xs : List A) → each one k xs ≡ []
    → (x : A) → Contains xs x → P x
each_to one P h k [] e x i = absurd (contains_none x i)
each_to one P h k (y ∷ xs) e x i =
    let parts = none_both (one k y) (each one (k + 1) xs) e in
    elim (contains_cases y xs x i) [
      | inl same ↦ subst P same (h k y parts.0)
      | inr j ↦ each_to one P h (k + 1) xs parts.1 x j
    ]

pub each_from : {A X : Type 0} (one : ℕ → A → List X) (P : A → Type 0)
    → ((k : ℕ) (x : A) → P x → one k x ≡ []) → (k : ℕ) (xs : List A)
    → ((x : A) → Contains xs x → P x) → each one k xs ≡ []
each_from one P h k [] all = refl
each_from one P h k (y ∷ xs) all =
    both_none (one k y) (each one (k + 1) xs) (h k y (all y (contains_here y xs)))
    (each_from one P h (k + 1) xs (λ x i. all x (contains_there y xs x i)))
