-- The names of declarations, and what the first pass finds wrong with them.
use Rattle.std.specs.declared.alloc.Global.{Global}
use Rattle.std.specs.Prelude.{ℕ, ℤ, pos, negsuc, List, [], ◌∷◌, ◌++◌, Bool, true, false, not, ◌||◌, ◌==◌, cond, length, Option, Some, None, is_some, string_bytes, codes, String}
use Rattle.std.specs.Str.{bytes_eq}
use Rattle.descriptor_records.specs.declared.enums.EnumReservedRange.{EnumReservedRange}
use Rattle.descriptor_records.specs.declared.field.FieldDescriptorProto.{FieldDescriptorProto}
use Rattle.descriptor_records.specs.declared.file.FileDescriptorProto.{FileDescriptorProto}
use Rattle.descriptor_records.specs.declared.message.ExtensionRange.{ExtensionRange}
use Rattle.descriptor_records.specs.declared.message.ReservedRange.{ReservedRange}
use Rattle.descriptor_records.specs.declared.service.MethodDescriptorProto.{MethodDescriptorProto}
use Rattle.reflect_scope.specs.declared.definition.Definition.{Definition}
use Rattle.reflect_scope.specs.Means.{scopes}
use Rattle.reflect_scope.specs.FileIndexes.{is_index}
use Rattle.reflect_declarations.specs.Tree.{text_of}
use Rattle.reflect_declarations.specs.Declarations.{Declaration, of_file, of_message, of_field, of_oneof, of_enum, of_enum_value, of_service, of_method, of_extension, each, entry}
use Rattle.reflect_scope.specs.Known.{Known, declared, is_taken}
use Rattle.reflect_known.specs.KnownNames.{definition_of, package_of}
use Rattle.reflect_faults.specs.Faults.{Place, Fault, file_not_found, duplicate_name, unknown_syntax, missing, bad_import_index}

-- the places of one file
abbrev pub Places : Type 0
Places = List ℤ → Place

-- a fault unless the field with this number and this name is present
abbrev pub lacks : Places → List ℤ → ℤ → List ℕ → Bool → List Fault
lacks at path tag field true = []
lacks at path tag field false = missing field (at (path ++ (tag ∷ []))) ∷ []

-- a fault where the name is taken
abbrev pub taken : Places → Known → List ℤ → ℤ → List ℕ → Definition → List Fault
taken at known path tag name d =
    cond (is_taken known name d) (duplicate_name name (at (path ++ (tag ∷ []))) ∷ []) []

-- a declaration's name: taken, or missing
abbrev pub name_faults : Places → Known → List ℤ → List ℕ → Bool → Definition → List Fault
name_faults at known path name named d =
    cond named (taken at known path (pos 1) name d) (lacks at path (pos 1) (codes "name") false)

abbrev pub package_faults : Places → Known → ℕ → List (List ℕ) → List Fault
package_faults at known file [] = []
package_faults at known file (s ∷ ss) = elim s [
  | [] ↦ package_faults at known file ss
  | b ∷ bs ↦ taken at known [] (pos 2) (b ∷ bs) (package_of file)
      ++ package_faults at (declared known (b ∷ bs) (package_of file)) file ss
]

-- groups, messages and enums have names
abbrev pub is_named_type : Option ℤ → Bool
is_named_type None = false
is_named_type (Some (pos n)) = (n == 10) || ((n == 11) || (n == 14))
is_named_type (Some (negsuc n)) = false

abbrev pub field_faults : Places → List ℤ → FieldDescriptorProto → List Fault
field_faults at path f =
    lacks at path (pos 3) (codes "number") (is_some f.number)
    ++ (lacks at path (pos 5) (codes "type") (is_some f.type_name || is_some f.field_type)
    ++ lacks at path (pos 6) (codes "type_name")
    (is_some f.type_name || not (is_named_type f.field_type)))

abbrev pub method_faults : Places → List ℤ → MethodDescriptorProto → List Fault
method_faults at path m = lacks at path (pos 2) (codes "input_type") (is_some m.input_type)
    ++ lacks at path (pos 3) (codes "output_type") (is_some m.output_type)

abbrev pub bound_faults : Places → List ℤ → Option ℤ → Option ℤ → List Fault
bound_faults at path start end = lacks at path (pos 1) (codes "start") (is_some start)
    ++ lacks at path (pos 2) (codes "end") (is_some end)

abbrev pub extension_range_faults : Places → List ℤ → ℕ → ExtensionRange → List Fault
extension_range_faults at path k r = bound_faults at (entry path (pos 5) k) r.start r.end

abbrev pub reserved_range_faults : Places → List ℤ → ℕ → ReservedRange → List Fault
reserved_range_faults at path k r = bound_faults at (entry path (pos 9) k) r.start r.end

abbrev pub enum_range_faults : Places → List ℤ → ℕ → EnumReservedRange → List Fault
enum_range_faults at path k r = bound_faults at (entry path (pos 4) k) r.start r.end

-- the names of files that stand for one
abbrev pub import_fault : Places → (List ℕ → Option ℕ) → ℕ → String Global → List Fault
import_fault at files k name =
    cond (is_some (files (string_bytes name))) []
    (file_not_found (string_bytes name) (at (entry [] (pos 3) k)) ∷ [])

abbrev pub public_fault : Places → ℕ → ℕ → ℤ → List Fault
public_fault at count k i = cond (is_index i count) []
    (bad_import_index i (at (entry [] (pos 10) k)) ∷ [])

abbrev pub syntax_faults : Places → Option (String Global) → List Fault
syntax_faults at None = []
syntax_faults at (Some s) = cond
    (bytes_eq (string_bytes s) (codes "proto2") || bytes_eq (string_bytes s) (codes "proto3")) []
    (unknown_syntax (string_bytes s) (at (pos 12 ∷ [])) ∷ [])

abbrev pub import_faults : Places → (List ℕ → Option ℕ) → FileDescriptorProto → List Fault
import_faults at files f =
    each (import_fault at files) 0 f.dependency.items
    ++ each (public_fault at (length f.dependency.items)) 0 f.public_dependency.items

-- the faults of a declaration, over the names that are known before it
abbrev pub faults_at : Places → Known → (List ℕ → Option ℕ) → Declaration → List Fault
faults_at at known files d = elim d.body [
  | of_file f ↦ import_faults at files f
      ++ (syntax_faults at f.syntax ++ package_faults at known d.file (scopes (text_of f.package)))
  | of_message m ↦ name_faults at known d.path d.name (is_some m.name) (definition_of d)
      ++ (each (extension_range_faults at d.path) 0 m.extension_range
      ++ each (reserved_range_faults at d.path) 0 m.reserved_range)
  | of_field f ↦ name_faults at known d.path d.name (is_some f.name) (definition_of d)
      ++ field_faults at d.path f
  | of_oneof o ↦ name_faults at known d.path d.name (is_some o.name) (definition_of d)
  | of_enum e ↦ name_faults at known d.path d.name (is_some e.name) (definition_of d)
      ++ each (enum_range_faults at d.path) 0 e.reserved_range.items
  | of_enum_value v ↦ name_faults at known d.path d.name (is_some v.name) (definition_of d)
      ++ lacks at d.path (pos 2) (codes "number") (is_some v.number)
  | of_service s ↦ name_faults at known d.path d.name (is_some s.name) (definition_of d)
  | of_method m ↦ name_faults at known d.path d.name (is_some m.name) (definition_of d)
      ++ method_faults at d.path m
  | of_extension x ↦ name_faults at known d.path d.name (is_some x.name) (definition_of d)
      ++ (field_faults at d.path x
      ++ lacks at d.path (pos 2) (codes "extendee") (is_some x.extendee))
]
