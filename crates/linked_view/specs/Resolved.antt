-- What a name means by what is known and seen, where that is told of files by names.
use Rattle.std.specs.Prelude.{◌≡◌, ◌↔◌, ℕ, List, Bool, true, Some, slice_get, map}
use Rattle.descriptor_records.specs.Content.{file_view}
use Rattle.descriptor_records.specs.declared.file.FileDescriptorProto.{FileDescriptorProto}
use Rattle.reflect_scope.specs.declared.definition.ResolveNameFilter.{ResolveNameFilter}
use Rattle.reflect_scope.specs.declared.definition.ResolveNameFilter.TheVariants as filter
use Rattle.schema_view.specs.Files.{file_name}
use Rattle.schema_view.specs.Outlines.{Outline, Sees}
use Rattle.schema_view.specs.Lawful.{outlines}
use Rattle.schema_view.specs.References.{Want, a_message, a_type}

-- what is looked for where something is wanted
abbrev pub filter_of : Want → ResolveNameFilter
filter_of a_message = filter.Message
filter_of (a_type n) = filter.FieldType

-- a file sees the files of these indexes
abbrev pub SeesThose : List FileDescriptorProto → Outline → (ℕ → Bool) → Type 0
SeesThose files from sees = (j : ℕ) (g : FileDescriptorProto) → slice_get files j ≡ Some g
    → ((sees j ≡ true) ↔ Sees (outlines (map file_view files)) from (file_name (file_view g)))
