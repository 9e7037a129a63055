-- The first of a list with a property is one.
use Rattle.std.proofs.Common.{◌≡◌, ℕ, Bool, true, false, List, Some, refl, nat_lt, arith}
use Rattle.reflect_tables.specs.Finding.{IsFirst}

-- a list has one first element with a property
pub one_first : {X : Type 0} (P : X → Type 0) (xs : List X) (d : X) (i j : ℕ) → IsFirst P xs (Some i) → IsFirst P xs (Some j) → i ≡ j
one_first P xs d i j a b = by (nat_lt i j) refl (nat_lt j i) refl where
  by : (u : Bool) → nat_lt i j ≡ u → (v : Bool) → nat_lt j i ≡ v → i ≡ j
  by true lt v other = absurd (b.1.1 i d (omega arith) (grind (arith, lt)) (a.1.0 d))
  by false other true lt = absurd (a.1.1 j d (omega arith) (grind (arith, lt)) (b.1.0 d))
  by false x false y = grind (arith, x, y)
