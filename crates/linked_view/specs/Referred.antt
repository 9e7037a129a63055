-- When each reference of new files, among all files, means something.
use Rattle.std.specs.Prelude.{◌≡◌, ℕ, ◌+◌, List, Bool, Contains, Some, slice_get}
use Rattle.descriptor_records.specs.Content.{FileContent, file_view}
use Rattle.descriptor_records.specs.declared.file.FileDescriptorProto.{FileDescriptorProto}
use Rattle.schema_view.specs.References.{Reference, references, Target}
use Rattle.schema_view.specs.Outlines.{Outline, outline_of}
use Rattle.schema_view.specs.Means.{ReferenceMeans}
use Rattle.linked_view.specs.Resolved.{SeesThose}

-- it means something of the kind that it needs
abbrev pub HasMeaning : List Outline → Outline → Reference → Type 0
HasMeaning os from r = (t : Target) × ReferenceMeans os from r t

abbrev pub AreMeant : List Outline → List FileContent → Type 0
AreMeant os fs = (f : FileContent) (r : Reference) → Contains fs f → Contains (references f) r
    → HasMeaning os (outline_of f) r

-- what each of the files sees, the first of which has this index
abbrev pub AreSeenBy : List FileDescriptorProto → ℕ → List FileDescriptorProto → (ℕ → ℕ → Bool)
    → Type 0
AreSeenBy all first files sees = (k : ℕ) (f : FileDescriptorProto) → slice_get files k ≡ Some f
    → SeesThose all (outline_of (file_view f)) (sees (first + k))
