-- What is asked of the types that messages and fields mean.
use Rattle.std.specs.Prelude.{ℕ, List, Bool}
use Rattle.reflect_tables.specs.Ranges.{Range}

-- what there is to know of message types and enums, by index
pub record TypesSay : Type 0 where
  pub reserved : ℕ → List Range
  pub extensions : ℕ → List Range
  pub is_entry : ℕ → Bool
  pub name : ℕ → List ℕ
