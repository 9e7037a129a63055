-- Numbers that stand in a list more than once.
use Rattle.std.specs.Prelude.{ℕ, ℤ, List, [], ◌∷◌, ◌++◌, Bool, false, cond, take, Option, Some, None}
use Rattle.std.specs.List.{list_any}
use Rattle.std.specs.Ordering.{int_eq}
use Rattle.reflect_declarations.specs.Declarations.{each, entry}
use Rattle.reflect_faults.specs.Faults.{Fault, Place}
use Rattle.reflect_names.specs.Names.{Places}

abbrev pub is_number : ℤ → Option ℤ → Bool
is_number n None = false
is_number n (Some m) = int_eq m n

-- what stands at a place, if an earlier number equals it
abbrev pub repeat_at : List (Option ℤ) → ℕ → Option ℤ → List (ℕ × ℤ)
repeat_at ns k None = []
repeat_at ns k (Some n) = cond (list_any (is_number n) (take k ns)) ((k, n) ∷ []) []

-- the places, with their numbers, of the numbers that stand earlier too
abbrev pub repeats : List (Option ℤ) → List (ℕ × ℤ)
repeats ns = each (repeat_at ns) 0 ns

-- a fault at the number of one, which is the field `number` of the entry of the list `tag`
abbrev pub repeat_fault : (ℤ → Place → Fault) → ℤ → ℤ → List ℤ → Places → ℕ × ℤ → List Fault
repeat_fault fault tag number path at r = fault r.1 (at (entry path tag r.0 ++ (number ∷ []))) ∷ []

abbrev pub listed : (ℤ → Place → Fault) → ℤ → ℤ → List ℤ → Places → List (ℕ × ℤ) → List Fault
listed fault tag number path at rs = each (λ k r. repeat_fault fault tag number path at r) 0 rs

abbrev pub repeat_faults : (ℤ → Place → Fault) → ℤ → ℤ → List ℤ → Places → List (Option ℤ)
    → List Fault
repeat_faults fault tag number path at ns = listed fault tag number path at (repeats ns)
