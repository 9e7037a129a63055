-- The indexes of files by their names, and what files import, by indexes.
use Rattle.std.specs.declared.alloc.Global.{Global}
use Rattle.std.specs.Prelude.{◌≡◌, ◌<◌, ℕ, ℤ, pos, negsuc, List, Bool, false, nat_lt, Option, Some, String}
use Rattle.std.specs.BTreeMap.{BTreeMap, get_by_text}
use Rattle.reflect_scope.specs.declared.seen.Links.{Links}

-- the indexes of files by their names
abbrev pub Indexes : Type 0
Indexes = List ℕ → Option ℕ

abbrev pub indexes_of : BTreeMap (String Global) ℕ → Indexes
indexes_of m = λ t. get_by_text m t

-- an index below the mark is that of a name in both or in neither
abbrev pub KeepsIndexes : ℕ → Indexes → Indexes → Type 0
KeepsIndexes mark old new = (t : List ℕ) (i : ℕ) → i < mark → (old t ≡ Some i → new t ≡ Some i)
    × (new t ≡ Some i → old t ≡ Some i)

-- the files that a file imports, and those that it imports publicly
abbrev pub link_view : Links → List ℕ × List ℕ
link_view l = (l.imports.items, l.public.items)

-- the number is the place of one of so many imports
abbrev pub is_index : ℤ → ℕ → Bool
is_index (pos i) count = nat_lt i count
is_index (negsuc i) count = false
