-- The first of a list with a property.
use Rattle.std.specs.Prelude.{ℕ, ◌<◌, List, Option, None, Some, All, HoldsAt, length}
use Rattle.std.specs.List.{AllWithin}

-- the place of the first element with P; none where no element has it
abbrev pub IsFirst : {X : Type 0} → (X → Type 0) → List X → Option ℕ → Type 0
IsFirst P xs (Some i) = (i < length xs) × (HoldsAt P xs i × AllWithin (λ x. P x → ⊥) xs 0 i)
IsFirst P xs None = All (λ x. P x → ⊥) xs
