-- The declarations of files, one file after another.
use Rattle.std.specs.Prelude.{◌≡◌, ℕ, zero, suc, ◌+◌, List, [], ◌∷◌, ◌++◌}
use Rattle.descriptor_records.specs.declared.file.FileDescriptorProto.{FileDescriptorProto}
use Rattle.reflect_declarations.specs.declared.offsets.Offsets.{Offsets}
use Rattle.reflect_declarations.specs.Declarations.{Declaration, file_declarations, past_file}

-- the counts behind files
abbrev pub past_files : Offsets → List FileDescriptorProto → Offsets
past_files o [] = o
past_files o (f ∷ fs) = past_files (past_file o f) fs

-- the declarations of files, the first of which has this index
abbrev pub batch_declarations : Offsets → ℕ → List FileDescriptorProto → List Declaration
batch_declarations o i [] = []
batch_declarations o i (f ∷ fs) = file_declarations o i f
    ++ batch_declarations (past_file o f) (i + 1) fs

-- what is kept at so many files, one after another, the first of which has this index
abbrev pub KeptBy : {S : Type 0} → (ℕ → S → S → Type 0) → ℕ → ℕ → S → S → Type 0
KeptBy kept i zero s t = t ≡ s
KeptBy {S} kept i (suc n) s t = (m : S) × KeptBy kept i n s m × kept (i + n) m t
