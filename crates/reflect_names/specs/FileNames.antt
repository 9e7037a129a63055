-- The names of files, and what is wrong with them.
use Rattle.std.specs.declared.alloc.Global.{Global}
use Rattle.std.specs.Prelude.{ℕ, pos, ◌+◌, List, [], ◌∷◌, ◌++◌, cond, Option, Some, None, is_some, string_bytes, codes, String}
use Rattle.std.specs.Map.{update}
use Rattle.std.specs.Str.{bytes_eq}
use Rattle.descriptor_records.specs.declared.file.FileDescriptorProto.{FileDescriptorProto}
use Rattle.reflect_scope.specs.FileIndexes.{Indexes}
use Rattle.reflect_faults.specs.Faults.{Fault, duplicate_file, missing}
use Rattle.reflect_names.specs.Names.{Places}

-- a file without a name, or with that of an earlier one
abbrev pub file_faults : Places → Indexes → Option (String Global) → List Fault
file_faults at known None = missing (codes "name") (at (pos 1 ∷ [])) ∷ []
file_faults at known (Some s) =
    cond (is_some (known (string_bytes s)))
    (duplicate_file (string_bytes s) (at (pos 1 ∷ [])) ∷ []) []

-- the first file of a name stays
abbrev pub with_file : Indexes → ℕ → Option (String Global) → Indexes
with_file known i None = known
with_file known i (Some s) = cond (is_some (known (string_bytes s))) known
    (update bytes_eq known (string_bytes s) (Some i))

-- the indexes behind files, the first of which has this index
abbrev pub with_files : Indexes → ℕ → List FileDescriptorProto → Indexes
with_files known i [] = known
with_files known i (f ∷ fs) = with_files (with_file known i f.name) (i + 1) fs

-- the faults of their names
abbrev pub files_faults : (ℕ → Places) → Indexes → ℕ → List FileDescriptorProto → List Fault
files_faults at known i [] = []
files_faults at known i (f ∷ fs) = file_faults (at i) known f.name
    ++ files_faults at (with_file known i f.name) (i + 1) fs
