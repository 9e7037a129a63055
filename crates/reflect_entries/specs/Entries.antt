-- Values under numbers: a list of pairs, of which the first with a number tells what stands under
-- it.
use Rattle.std.specs.Prelude.{◌≡◌, ◌≢◌, ◌<◌, ℕ, ◌==◌, Option, List}
use Rattle.std.specs.List.{AllPairs}
use Rattle.std.specs.Map.{lookup}

module _ {V : Type 0} where
  -- each number is below those behind it
  abbrev pub IsAscending : List (ℕ × V) → Type 0
  IsAscending entries = AllPairs (λ a b. a.0 < b.0) entries

  -- what stands under a number: the value of the first pair with it
  abbrev pub value_at : List (ℕ × V) → ℕ → Option V
  value_at entries number = lookup (λ n. number == n) entries

  -- under the number stands the value that is given, or nothing, under every other what stood
  -- there, and the numbers ascend
  pub record Updates (old new : List (ℕ × V)) (number : ℕ) (given : Option V) : Type 0 where
    pub here : value_at new number ≡ given
    pub others : (other : ℕ) → other ≢ number → value_at new other ≡ value_at old other
    pub ascending : IsAscending new

-- each number is below those behind it
abbrev pub Ascend : List ℕ → Type 0
Ascend numbers = AllPairs (λ a b. a < b) numbers
