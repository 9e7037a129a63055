-- Faults by their data and their places.
use Rattle.std.specs.declared.ops.Range.{Range}
use Rattle.std.specs.Prelude.{◌≡◌, ℕ, ℤ, ◌-◌, List, [], ◌++◌, map, cond, nat_le, Option, Some, None, slice_get, string_bytes}
use Rattle.descriptor_records.specs.declared.file.FileDescriptorProto.{FileDescriptorProto}
use Rattle.reflect_declarations.specs.Tree.{text_of}
use Rattle.reflect_faults.specs.Spans.{span_among, locations_at}
use Rattle.reflect_faults.specs.declared.label.Label.{Label}
use Rattle.reflect_faults.specs.declared.label.SourceSpan.{SourceSpan}
use Rattle.reflect_faults.specs.declared.error.DescriptorErrorKind.{DescriptorErrorKind}
use Rattle.reflect_faults.specs.declared.error.DescriptorErrorKind.TheVariants as kind
use Rattle.reflect_faults.specs.declared.faults.Faults.{Faults}
use Rattle.reflect_walk.specs.declared.visit_error.VisitError.{VisitError}
use Rattle.reflect_walk.specs.declared.visit_error.VisitError.TheVariants as walks

-- a path in the file of a name, where it stands in its source, if that is told, and the bytes
-- there, once they were looked for
pub record Place : Type 0 where
  pub file : List ℕ
  pub path : List ℤ
  pub span : Option SourceSpan
  pub bytes : Option (Range ℕ)

pub data Fault : Type 0 where
  duplicate_file : List ℕ → Place → Fault
  file_not_found : List ℕ → Place → Fault
  duplicate_name : List ℕ → Place → Fault
  name_not_found : List ℕ → Place → Fault
  name_shadowed : List ℕ → List ℕ → Place → Fault
  invalid_type : List ℕ → List ℕ → Place → Fault
  unknown_syntax : List ℕ → Place → Fault
  missing : List ℕ → Place → Fault
  bad_import_index : ℤ → Place → Fault
  invalid_number : ℤ → Place → Fault
  duplicate_number : ℤ → Place → Fault
  reserved_number : ℤ → ℤ × ℤ → Place → Fault
  number_of_extensions : ℤ → ℤ × ℤ → Place → Fault
  no_extension_number : ℤ → List ℕ → Place → Fault
  empty_enum : Place → Fault
  duplicate_enum_number : ℤ → Place → Fault
  bad_first_value : Place → Fault
  bad_default : List ℕ → Place → Fault
  bad_oneof_index : ℤ → Place → Fault
  bad_map_entry : List ℕ → Place → Fault
  duplicate_extension : ℤ → List ℕ → Place → Fault
  another : Fault

abbrev pub place_of : Label → Place
place_of l =
    record { file = string_bytes l.file; path = l.path.items; span = l.span; bytes = l.bytes }

abbrev pub fault_view : DescriptorErrorKind → Fault
fault_view (kind.DuplicateFileName name found) = duplicate_file (string_bytes name) (place_of found)
fault_view (kind.FileNotFound name found) = file_not_found (string_bytes name) (place_of found)
fault_view (kind.DuplicateName name found) = duplicate_name (string_bytes name) (place_of found)
fault_view (kind.NameNotFound name found) = name_not_found (string_bytes name) (place_of found)
fault_view (kind.NameShadowed name full found) =
    name_shadowed (string_bytes name) (string_bytes full) (place_of found)
fault_view (kind.InvalidType name expected found) =
    invalid_type (string_bytes name) expected.now (place_of found)
fault_view (kind.UnknownSyntax syntax found) = unknown_syntax (string_bytes syntax) (place_of found)
fault_view (kind.MissingRequiredField field found) = missing field.now (place_of found)
fault_view (kind.InvalidImportIndex index found) = bad_import_index index (place_of found)
fault_view (kind.InvalidFieldNumber number found) = invalid_number number (place_of found)
fault_view (kind.DuplicateFieldNumber number found) = duplicate_number number (place_of found)
fault_view (kind.NumberInReservedRange number start end found) =
    reserved_number number (start, end) (place_of found)
fault_view (kind.NumberInExtensionRange number start end found) =
    number_of_extensions number (start, end) (place_of found)
fault_view (kind.ExtensionNumberOutOfRange number message found) =
    no_extension_number number (string_bytes message) (place_of found)
fault_view (kind.EmptyEnum found) = empty_enum (place_of found)
fault_view (kind.DuplicateEnumNumber number found) = duplicate_enum_number number (place_of found)
fault_view (kind.InvalidProto3EnumDefault found) = bad_first_value (place_of found)
fault_view (kind.InvalidFieldDefault value found) =
    bad_default (string_bytes value) (place_of found)
fault_view (kind.InvalidOneofIndex index found) = bad_oneof_index index (place_of found)
fault_view (kind.BadMapEntry name found) = bad_map_entry (string_bytes name) (place_of found)
fault_view (kind.DuplicateExtensionNumber number message found) =
    duplicate_extension number (string_bytes message) (place_of found)
fault_view _ = another

-- what is told of a walk that ended early
abbrev pub of_walk : VisitError → DescriptorErrorKind
of_walk walks.TooMany = kind.TooMany
of_walk walks.Memory = kind.Memory

-- where a fault stands, if it is one of a file
abbrev pub place_of_fault : Fault → Option Place
place_of_fault (duplicate_file n p) = Some p
place_of_fault (file_not_found n p) = Some p
place_of_fault (duplicate_name n p) = Some p
place_of_fault (name_not_found n p) = Some p
place_of_fault (name_shadowed n m p) = Some p
place_of_fault (invalid_type n e p) = Some p
place_of_fault (unknown_syntax n p) = Some p
place_of_fault (missing n p) = Some p
place_of_fault (bad_import_index i p) = Some p
place_of_fault (invalid_number i p) = Some p
place_of_fault (duplicate_number i p) = Some p
place_of_fault (reserved_number i r p) = Some p
place_of_fault (number_of_extensions i r p) = Some p
place_of_fault (no_extension_number i n p) = Some p
place_of_fault (empty_enum p) = Some p
place_of_fault (duplicate_enum_number i p) = Some p
place_of_fault (bad_first_value p) = Some p
place_of_fault (bad_default n p) = Some p
place_of_fault (bad_oneof_index i p) = Some p
place_of_fault (bad_map_entry n p) = Some p
place_of_fault (duplicate_extension i n p) = Some p
place_of_fault another = None

abbrev pub list_of : Faults → List Fault
list_of f = map fault_view f.found.items

-- the name of the file of an index, among files the first of which has the index `first`
abbrev pub name_at : List FileDescriptorProto → ℕ → ℕ → List ℕ
name_at files first i = cond (nat_le first i)
    (elim (slice_get files (i - first)) [ None ↦ [] | Some f ↦ text_of f.name ]) []

-- the places of their records, of which no one has looked for the bytes
abbrev pub batch_places : List FileDescriptorProto → ℕ → ℕ → List ℤ → Place
batch_places files first i path =
    record {
      file = name_at files first i;
      path = path;
      span =
          span_among (locations_at files first i) path;
      bytes = None;
    }

abbrev pub file_name : Faults → ℕ → List ℕ
file_name f i = name_at f.files.now f.first i

abbrev pub place_at : Faults → ℕ → List ℤ → Place
place_at f = batch_places f.files.now f.first

-- the faults are those of the same files as before, with more behind
pub record Adds (s t : Faults) (more : List Fault) : Type 0 where
  pub files : t.files.now ≡ s.files.now
  pub first : t.first ≡ s.first
  pub added : list_of t ≡ list_of s ++ more
