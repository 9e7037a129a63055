-- Which files of a pool its files import.
use Rattle.std.specs.Prelude.{◌≡◌, ℕ, ℤ, pos, negsuc, List, [], map, length, true, Option, Some, None, slice_get, slice_index_or, bytes_eq}
use Rattle.std.specs.List.{AllByRecursion, Contains, filter_map, position}
use Rattle.reflect_scope.specs.FileIndexes.{Indexes, is_index}
use Rattle.reflect_tables.specs.Types.{FileType, PoolType, ArePooled}

-- the names of files
abbrev pub names_of_files : List FileType → List (List ℕ)
names_of_files files = map (λ f. f.name) files

-- the name of the file at a place
abbrev pub name_at : PoolType → ℕ → List ℕ
name_at p place = slice_index_or (names_of_files p.files) place []

-- the place of the file of a name
abbrev pub place_named : PoolType → Indexes
place_named p name = position (bytes_eq name) (names_of_files p.files)

-- the file that the import at an index among the names stands for
abbrev pub import_at : Indexes → List (List ℕ) → ℤ → Option ℕ
import_at indexes names (pos i) =
    elim (slice_get names i) [ None ↦ None | Some name ↦ indexes name ]
import_at indexes names (negsuc i) = None

-- the import at an index among the names
abbrev pub import_name : List (List ℕ) → ℤ → List ℕ
import_name names (pos i) = slice_index_or names i []
import_name names (negsuc i) = []

-- the files that a file imports, in the order of its imports
abbrev pub imported : Indexes → FileType → List ℕ
imported indexes f = filter_map indexes f.imports

-- those of them that it imports publicly, in the order in which it names them
abbrev pub imported_publicly : Indexes → FileType → List ℕ
imported_publicly indexes f = filter_map (import_at indexes f.imports) f.public_imports

abbrev pub imported_places : Indexes → FileType → List ℕ × List ℕ
imported_places indexes f = (imported indexes f, imported_publicly indexes f)

-- a file's imports are among the names, and its public imports are places among its imports
pub record ImportsAmong (names : List (List ℕ)) (f : FileType) : Type 0 where
  pub imports : AllByRecursion (Contains names) f.imports
  pub places : AllByRecursion (λ i. is_index i (length f.imports) ≡ true) f.public_imports

-- each import of each file is the name of one of the files
abbrev pub ImportsAreThere : PoolType → Type 0
ImportsAreThere p = AllByRecursion (ImportsAmong (names_of_files p.files)) p.files

-- what the entries of a pool name is there, and so are the files that its files import
pub record StandsAlone (p : PoolType) : Type 0 where
  pub pooled : ArePooled p
  pub imports : ImportsAreThere p
