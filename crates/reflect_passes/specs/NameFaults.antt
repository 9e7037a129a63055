-- What is wrong with the names and the references of a batch of files.
use Rattle.std.specs.Prelude.{ℕ, List, ◌++◌}
use Rattle.descriptor_records.specs.declared.file.FileDescriptorProto.{FileDescriptorProto}
use Rattle.reflect_scope.specs.declared.seen.Links.{Links}
use Rattle.reflect_declarations.specs.Batches.{batch_declarations}
use Rattle.reflect_declarations.specs.declared.offsets.Offsets.{Offsets}
use Rattle.reflect_faults.specs.Faults.{Fault, batch_places}
use Rattle.reflect_scope.specs.FileIndexes.{Indexes}
use Rattle.reflect_names.specs.FileNames.{with_files, files_faults}
use Rattle.reflect_scope.specs.Known.{Known}
use Rattle.reflect_names.specs.NamePass.{faults_along}
use Rattle.reflect_names.specs.ReferencePass.{BatchReferences}
use Rattle.reflect_names.specs.References.{Target}

-- the faults of the files' own names, then those of their declarations, which name files by these
abbrev pub name_faults : Indexes → Known → Offsets → ℕ → List FileDescriptorProto → List Fault
name_faults indexes known before first files =
    files_faults (batch_places files first) indexes first files
    ++ faults_along (batch_places files first) (with_files indexes first files) known
    (batch_declarations before first files)

-- the faults of their references, whatever the others mean
abbrev pub ReferenceFaults : Known → List Links → Offsets → ℕ → List FileDescriptorProto
    → List Fault → Type 0
ReferenceFaults known links before first files xs = (means : List Target)
    × BatchReferences known links (batch_places files first) before first files means xs
