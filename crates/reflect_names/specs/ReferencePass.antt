-- The references and the faults of files.
use Rattle.std.specs.Prelude.{◌≡◌, ◌<◌, ◌≤◌, ◌↔◌, ℕ, ◌+◌, List, [], ◌∷◌, ◌++◌, length, Bool, false, IsTrue}
use Rattle.descriptor_records.specs.declared.file.FileDescriptorProto.{FileDescriptorProto}
use Rattle.reflect_scope.specs.Sees.{Sees}
use Rattle.reflect_scope.specs.declared.seen.Links.{Links}
use Rattle.reflect_declarations.specs.Batches.{batch_declarations}
use Rattle.reflect_declarations.specs.Declarations.{Declaration}
use Rattle.reflect_declarations.specs.declared.offsets.Offsets.{Offsets}
use Rattle.reflect_faults.specs.Faults.{Fault}
use Rattle.reflect_scope.specs.Known.{Known}
use Rattle.reflect_names.specs.Names.{Places}
use Rattle.reflect_names.specs.References.{View, Target, targets_of, reference_faults_at}

-- what there is known, and what each file sees
abbrev pub views_of : Known → (ℕ → ℕ → Bool) → ℕ → View
views_of known sees file = record { known = known; sees = sees file }

-- each of so many files, the first of which has this index, sees what its links say
abbrev pub AreSeen : List Links → ℕ → ℕ → (ℕ → ℕ → Bool) → Type 0
AreSeen links first count sees = (f g : ℕ) → first ≤ f → f < first + count → g < length links
    → (IsTrue (sees f g) ↔ Sees links f g)

-- and no index at which there are no links
abbrev pub SeeNoOthers : List Links → ℕ → ℕ → (ℕ → ℕ → Bool) → Type 0
SeeNoOthers links first count sees = (f g : ℕ) → first ≤ f → f < first + count
    → length links ≤ g → sees f g ≡ false

-- what the references of declarations mean, by the view of each file
abbrev pub targets_along : (ℕ → View) → List Declaration → List Target
targets_along views [] = []
targets_along views (d ∷ ds) = targets_of (views d.file) d ++ targets_along views ds

abbrev pub reference_faults_along : (ℕ → Places) → (ℕ → View) → List Declaration → List Fault
reference_faults_along at views [] = []
reference_faults_along at views (d ∷ ds) = reference_faults_at (at d.file) (views d.file) d
    ++ reference_faults_along at views ds

-- what the references of files mean, by what each of them sees, and the faults of those that mean
-- nothing
pub record BatchReferences (known : Known) (links : List Links) (at : ℕ → Places) (before : Offsets)
    (first : ℕ) (files : List FileDescriptorProto) (means : List Target)
    (wrong : List Fault) : Type 0 where
  pub sees : ℕ → ℕ → Bool
  pub right : AreSeen links first (length files) sees
  pub others : SeeNoOthers links first (length files) sees
  pub targets : means ≡ targets_along (views_of known sees) (batch_declarations before first files)
  pub faults : wrong ≡ reference_faults_along at (views_of known sees)
      (batch_declarations before first files)
