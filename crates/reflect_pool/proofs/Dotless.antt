-- Names without a leading dot.
use Rattle.std.proofs.Common.{◌≡◌, ℕ, List, [], ◌∷◌, Bool, true, false, ◌==◌, cond, refl, ap, sym, arith}
use Rattle.reflect_pool.specs.Dots.{without_dot}

pub no_dot : (name : List ℕ) → ((rest : List ℕ) → name ≡ 46 ∷ rest → ⊥) → name ≡ without_dot name
no_dot [] none = refl
no_dot (b ∷ bs) none = by (b == 46) refl where
  by : (t : Bool) → (b == 46) ≡ t → (b ∷ bs) ≡ cond (b == 46) bs (b ∷ bs)
  by true is = let e : b ≡ 46 = grind (arith, is) in absurd (none bs (ap (λ x. x ∷ bs) e))
  by false is = ap (λ t. cond t bs (b ∷ bs)) (sym is)
