-- The faults of a list of declarations.
use Rattle.std.specs.Prelude.{ℕ, List, [], ◌∷◌, ◌++◌, Option}
use Rattle.reflect_declarations.specs.Declarations.{Declaration}
use Rattle.reflect_scope.specs.Known.{Known}
use Rattle.reflect_faults.specs.Faults.{Fault}
use Rattle.reflect_known.specs.KnownNames.{known_after}
use Rattle.reflect_names.specs.Names.{Places, faults_at}

-- `at` gives the places of each file, `files` the files of names
abbrev pub faults_along : (ℕ → Places) → (List ℕ → Option ℕ) → Known → List Declaration → List Fault
faults_along at files known [] = []
faults_along at files known (d ∷ ds) = faults_at (at d.file) known files d
    ++ faults_along at files (known_after known d) ds
