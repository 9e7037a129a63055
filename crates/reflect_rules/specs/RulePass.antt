-- The faults of a batch of files.
use Rattle.std.specs.Prelude.{◌≡◌, ℕ, List, [], ◌∷◌, ◌++◌, false, Option}
use Rattle.descriptor_records.specs.declared.file.FileDescriptorProto.{FileDescriptorProto}
use Rattle.reflect_declarations.specs.declared.offsets.Offsets.{Offsets}
use Rattle.reflect_declarations.specs.Batches.{batch_declarations}
use Rattle.reflect_declarations.specs.Declarations.{Declaration}
use Rattle.reflect_faults.specs.Faults.{Fault, batch_places}
use Rattle.reflect_names.specs.Names.{Places}
use Rattle.reflect_names.specs.declared.resolve_visitor.Reference.{Reference}
use Rattle.reflect_rules.specs.TypesSay.{TypesSay}
use Rattle.reflect_rules.specs.Walks.{Facts, Place, place_behind}
use Rattle.reflect_rules.specs.Rules.{Values, FaultsOf}
use Rattle.reflect_rules.specs.Uses.{users, use_by}
use Rattle.reflect_rules.specs.declared.uses.EntryUse.{EntryUse}

-- the faults of declarations, one after another
abbrev pub FaultsAlong : Facts → Values → (ℕ → Places) → Place → List Declaration → List Fault
    → Type 0
FaultsAlong g values at p [] xs = xs ≡ []
FaultsAlong g values at p (d ∷ ds) xs =
    (ys : List Fault) × (zs : List Fault) × FaultsOf g values p (at d.file) d ys
    × FaultsAlong g values at (place_behind p d) ds zs × (xs ≡ ys ++ zs)

-- how the type of a map's entries of the index is used in a batch of files, whose references mean
-- this
abbrev pub batch_use : TypesSay → Offsets → ℕ → List FileDescriptorProto → List Reference → ℕ
    → Option EntryUse
batch_use types before first files references i =
    use_by (users types i references (batch_declarations before first files))

-- the faults of a batch of files, whose references mean this
abbrev pub BatchFaults : TypesSay → Values → Offsets → ℕ → List FileDescriptorProto → List Reference
    → List Fault → Type 0
BatchFaults types values before first files references xs =
    FaultsAlong (record {
      types = types;
      uses = batch_use types before first files references;
      first = before.messages;
    }) values (batch_places files first)
    (record { rest = references; is_proto3 = false; oneofs = 0 })
    (batch_declarations before first files) xs
