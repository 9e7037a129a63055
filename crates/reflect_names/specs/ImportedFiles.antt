-- Which files a file imports.
use Rattle.std.specs.declared.alloc.Global.{Global}
use Rattle.std.specs.Prelude.{ℕ, ℤ, pos, negsuc, List, Option, Some, None, slice_get, string_bytes, String}
use Rattle.std.specs.List.{filter_map}
use Rattle.descriptor_records.specs.declared.file.FileDescriptorProto.{FileDescriptorProto}
use Rattle.reflect_scope.specs.FileIndexes.{Indexes}

-- the file of a name, and that of the import at an index
abbrev pub file_of : Indexes → String Global → Option ℕ
file_of known name = known (string_bytes name)

abbrev pub import_at : Indexes → List (String Global) → ℤ → Option ℕ
import_at known names (pos i) =
    elim (slice_get names i) [ None ↦ None | Some name ↦ file_of known name ]
import_at known names (negsuc i) = None

-- the files that a file imports, and those of them that it imports publicly
abbrev pub links_to : Indexes → FileDescriptorProto → List ℕ × List ℕ
links_to known f = (
  filter_map (file_of known) f.dependency.items,
  filter_map (import_at known f.dependency.items) f.public_dependency.items,
)
