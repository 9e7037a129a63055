-- A list of files, with a mark at each of them.
use Rattle.std.specs.Prelude.{◌≡◌, ℕ, ◌+◌, ◌<◌, List, [], ◌∷◌, ◌++◌, ◌||◌, ◌==◌, Bool, true, false, not, length, slice_index_or, count_by}
use Rattle.std.specs.List.{Contains}

abbrev pub is_listed : List ℕ → ℕ → Bool
is_listed [] g = false
is_listed (f ∷ fs) g = (f == g) || is_listed fs g

-- each file with a mark is in the list
abbrev pub AreListed : List Bool → List ℕ → Type 0
AreListed marks order = (g : ℕ) → slice_index_or marks g false ≡ true → is_listed order g ≡ true

-- no file has a mark
abbrev pub AllClear : List Bool → Type 0
AllClear marks = (g : ℕ) → slice_index_or marks g false ≡ true → ⊥

pub record IsMarked (marks : List Bool) (order : List ℕ) : Type 0 where
  pub free : length order + count_by not marks ≡ length marks
  pub listed : (g : ℕ) → slice_index_or marks g false ≡ true → Contains order g
  pub marked : (g : ℕ) → Contains order g → slice_index_or marks g false ≡ true
  pub known : (g : ℕ) → Contains order g → g < length marks

-- more files, each as given, behind the old ones
pub record Extends (P : ℕ → Type 0) (old new : List ℕ) : Type 0 where
  pub more : List ℕ
  pub is : new ≡ old ++ more
  pub each : (g : ℕ) → Contains more g → P g
