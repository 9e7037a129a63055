-- Where locations move that stand at an option or below it (descriptor.proto, SourceCodeInfo): from
-- the option's place among the uninterpreted ones of a record's options to where it was set.
use Rattle.std.specs.declared.alloc.Global.{Global}
use Rattle.std.specs.Prelude.{◌≡◌, ◌≤◌, ◌<◌, ◌++◌, ◌+◌, ◌-◌, ◌^◌, if◌then◌else◌, nat_lt, ℕ, ℤ, pos, List, [], ◌∷◌, Option, None, Some, Vec, drop, length, option_map, take}
use Rattle.std.specs.BTreeMap.{BTreeMap, get_by}
use Rattle.std.specs.Cmp.Lexicographic.{slice_cmp}
use Rattle.std.specs.Ordering.{int_cmp}
use Rattle.descriptor_records.specs.declared.source_info.Location.{Location}
use Rattle.reflect_growth.specs.declared.settle.Edit.{Edit}
use Rattle.reflect_growth.specs.declared.settle.Edit.TheVariants as edits

-- where options were set, by their paths
abbrev pub Targets : Type 0
Targets = List ℤ → Option (List ℤ)

abbrev pub targets_of : BTreeMap (Vec ℤ Global) (Vec ℤ Global) → Targets
targets_of moved path =
    option_map (λ t. t.items) (get_by (λ k. slice_cmp int_cmp path k.items) moved)

-- the path of an option that is uninterpreted, the list of which has the number 999
abbrev pub IsOptionPath : List ℤ → Type 0
IsOptionPath path =
    (options : List ℤ) × (place : ℤ) × (path ≡ options ++ (pos 999 ∷ place ∷ []))

-- the front of so many numbers is such a path, and that option was set here
abbrev pub FrontMoves : Targets → List ℤ → ℕ → List ℤ → Type 0
FrontMoves targets path len target = (len ≤ length path) × IsOptionPath (take len path)
    × (targets (take len path) ≡ Some target)

-- the path moves with its shortest front that does, or none does
abbrev pub MovesTo : Targets → List ℤ → Option (List ℤ) → Type 0
MovesTo targets path None = (len : ℕ) (target : List ℤ) → FrontMoves targets path len target → ⊥
MovesTo targets path (Some moved) = (len : ℕ) × (target : List ℤ)
    × FrontMoves targets path len target × (moved ≡ target ++ drop len path)
    × ((less : ℕ) (other : List ℤ) → less < len → FrontMoves targets path less other → ⊥)

-- a place as an edit has it, as far as 32 bits count
abbrev pub place_32 : ℕ → ℕ
place_32 n = if nat_lt n (2 ^ 32) then n else 2 ^ 32 - 1

-- what an edit does to the location at a place, if its path moves
abbrev pub EditsLocation : ℕ → ℕ → Option (List ℤ) → List Edit → Type 0
EditsLocation file place None es = es ≡ []
EditsLocation file place (Some moved) es = (path : Vec ℤ Global) × (path.items ≡ moved)
    × (es ≡ edits.Location file (place_32 place) path ∷ [])

-- the edits of a file's locations, from the one at a place on
abbrev pub EditsLocations : Targets → ℕ → ℕ → List Location → List Edit → Type 0
EditsLocations targets file place [] es = es ≡ []
EditsLocations targets file place (l ∷ ls) es =
    (moved : Option (List ℤ)) × (own rest : List Edit) × MovesTo targets l.path.items moved
    × EditsLocation file place moved own × EditsLocations targets file (place + 1) ls rest
    × (es ≡ own ++ rest)
