-- What the pass over names finds wrong with files themselves, and when files have names, a syntax
-- and imports as they should.
use Rattle.std.specs.Prelude.{◌≡◌, ◌≤◌, ℕ, List, [], ◌++◌, Contains}
use Rattle.descriptor_records.specs.Content.{Text, FileContent}
use Rattle.descriptor_records.specs.declared.file.FileDescriptorProto.{FileDescriptorProto}
use Rattle.reflect_scope.specs.FileIndexes.{Indexes}
use Rattle.reflect_names.specs.FileNames.{with_files, files_faults}
use Rattle.reflect_names.specs.Names.{Places, import_faults, syntax_faults}
use Rattle.schema_view.specs.Files.{Import, imports_of}
use Rattle.schema_view.specs.Outlines.{IsNamed, times_named}
use Rattle.schema_view.specs.Lawful.{outlines, IsFile}

-- no file lacks a name or has that of another, each import stands for a file and each public import
-- for an import, and each syntax is known
pub record HaveNoFault (at : ℕ → Places) (indexes : Indexes) (first : ℕ)
    (files : List FileDescriptorProto) : Type 0 where
  pub names : files_faults at indexes first files ≡ []
  pub imports : (k : ℕ) (f : FileDescriptorProto) → Contains files f
      → import_faults (at k) (with_files indexes first files) f ≡ []
  pub syntax : (k : ℕ) (f : FileDescriptorProto) → Contains files f
      → syntax_faults (at k) f.syntax ≡ []

-- new files are files behind older ones: no two have one name, and imports are names of files
pub record AreFiles (old new : List FileContent) : Type 0 where
  pub names : (n : Text) → times_named n (outlines (old ++ new)) ≤ 1
  pub files : (f : FileContent) → Contains new f → IsFile f
  pub imports : (f : FileContent) (i : Import)
      → Contains new f → Contains (imports_of f) i → IsNamed (outlines (old ++ new)) i.file
