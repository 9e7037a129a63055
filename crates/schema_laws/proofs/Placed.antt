-- Faults that stand at paths of one file, or of several: lists of them.
use Rattle.std.proofs.Common.{◌≡◌, ◌+◌, ℕ, ℤ, Bool, true, false, List, [], ◌∷◌, ◌++◌, Some, cond}
use Rattle.std.specs.List.{AllByRecursion}
use Rattle.reflect_declarations.specs.Declarations.{each}
use Rattle.reflect_faults.specs.Faults.{Fault, place_of_fault}
use Rattle.reflect_names.specs.Names.{Places}

-- the fault stands at a path of the file with these places
abbrev pub IsIn : Places → Fault → Type 0
IsIn at x = (path : List ℤ) × (place_of_fault x ≡ Some (at path))

pub record AreIn (at : Places) (xs : List Fault) : Type 0 where
  pub all : AllByRecursion (IsIn at) xs

-- it stands at one of a file
abbrev pub Stands : (ℕ → Places) → Fault → Type 0
Stands at x = (i : ℕ) × (path : List ℤ) × (place_of_fault x ≡ Some (at i path))

pub record AllStand (at : ℕ → Places) (xs : List Fault) : Type 0 where
  pub all : AllByRecursion (Stands at) xs

-- ---- lists

appended : (P : Fault → Type 0) (xs ys : List Fault) → AllByRecursion P xs → AllByRecursion P ys → AllByRecursion P (xs ++ ys)
appended P [] ys a b = b
appended P (x ∷ xs) ys a b = (a.0, appended P xs ys a.1 b)

module _ (at : Places) where
  pub none : AreIn at []
  none = record { all = tt }

  pub one : (x : Fault) (path : List ℤ) → place_of_fault x ≡ Some (at path) → AreIn at (x ∷ [])
  one x path is = record { all = ((path, is), tt) }

  pub both : (xs ys : List Fault) → AreIn at xs → AreIn at ys → AreIn at (xs ++ ys)
  both xs ys a b = record { all = appended (IsIn at) xs ys a.all b.all }

  pub where_so : (b : Bool) (x : Fault) (path : List ℤ) → place_of_fault x ≡ Some (at path) → AreIn at (cond b (x ∷ []) [])
  where_so true x path is = one x path is
  where_so false x path is = none

  pub unless_so : (b : Bool) (x : Fault) (path : List ℤ) → place_of_fault x ≡ Some (at path) → AreIn at (cond b [] (x ∷ []))
  unless_so true x path is = none
  unless_so false x path is = one x path is

  pub each_in : {A : Type 0} (f : ℕ → A → List Fault) → ((k : ℕ) (x : A) → AreIn at (f k x)) → (k : ℕ) (xs : List A) → AreIn at (each f k xs)
  each_in f are k [] = none
  each_in f are k (x ∷ xs) = both (f k x) (each f (k + 1) xs) (are k x) (each_in f are (k + 1) xs)

module _ (at : ℕ → Places) where
  pub no_fault : AllStand at []
  no_fault = record { all = tt }

  pub joined : (xs ys : List Fault) → AllStand at xs → AllStand at ys → AllStand at (xs ++ ys)
  joined xs ys a b = record { all = appended (Stands at) xs ys a.all b.all }

  -- those of one file
  pub of_file_at : (i : ℕ) (xs : List Fault) → AreIn (at i) xs → AllStand at xs
  of_file_at i xs are = record { all = by xs are.all } where
    by : (xs : List Fault) → AllByRecursion (IsIn (at i)) xs → AllByRecursion (Stands at) xs
    by [] all = tt
    by (x ∷ xs) all = ((i, all.0.0, all.0.1), by xs all.1)
