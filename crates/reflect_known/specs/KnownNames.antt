-- What full names stand for behind declarations, and behind all files of a pool.
use Rattle.std.specs.Prelude.{ℕ, List, [], ◌∷◌, Bool, cond, None, is_some}
use Rattle.descriptor_records.specs.declared.file.FileDescriptorProto.{FileDescriptorProto}
use Rattle.reflect_scope.specs.declared.definition.Definition.{Definition}
use Rattle.reflect_scope.specs.declared.definition.DefinitionKind.{DefinitionKind}
use Rattle.reflect_scope.specs.declared.definition.DefinitionKind.TheVariants as kind
use Rattle.reflect_scope.specs.Known.{Known, declared}
use Rattle.reflect_scope.specs.Means.{scopes}
use Rattle.reflect_declarations.specs.declared.offsets.Offsets.{Offsets}
use Rattle.reflect_declarations.specs.Tree.{text_of}
use Rattle.reflect_declarations.specs.Declarations.{Declaration, of_file, of_message, of_field, of_oneof, of_enum, of_enum_value, of_service, of_method, of_extension}
use Rattle.reflect_declarations.specs.Batches.{batch_declarations, past_files}

abbrev pub kind_of : Declaration → DefinitionKind
kind_of d = elim d.body [
  | of_file f ↦ kind.Package
  | of_message m ↦ kind.Message d.index
  | of_field f ↦ kind.Field
  | of_oneof o ↦ kind.Oneof
  | of_enum e ↦ kind.Enum d.index
  | of_enum_value v ↦ kind.EnumValue
  | of_service s ↦ kind.Service d.index
  | of_method m ↦ kind.Method
  | of_extension x ↦ kind.Extension d.index
]

abbrev pub definition_of : Declaration → Definition
definition_of d = record { file = d.file; kind = kind_of d }

abbrev pub package_of : ℕ → Definition
package_of file = record { file = file; kind = kind.Package }

abbrev pub named : Known → List ℕ → Bool → Definition → Known
named known name is_named d = cond is_named (declared known name d) known

-- the scopes of a package are packages, but for the empty one
abbrev pub packages : Known → ℕ → List (List ℕ) → Known
packages known file [] = known
packages known file (s ∷ ss) = elim s [
  | [] ↦ packages known file ss
  | b ∷ bs ↦ packages (declared known (b ∷ bs) (package_of file)) file ss
]

-- the names that are known behind a declaration
abbrev pub known_after : Known → Declaration → Known
known_after known d = elim d.body [
  | of_file f ↦ packages known d.file (scopes (text_of f.package))
  | of_message m ↦ named known d.name (is_some m.name) (definition_of d)
  | of_field f ↦ named known d.name (is_some f.name) (definition_of d)
  | of_oneof o ↦ named known d.name (is_some o.name) (definition_of d)
  | of_enum e ↦ named known d.name (is_some e.name) (definition_of d)
  | of_enum_value v ↦ named known d.name (is_some v.name) (definition_of d)
  | of_service s ↦ named known d.name (is_some s.name) (definition_of d)
  | of_method m ↦ named known d.name (is_some m.name) (definition_of d)
  | of_extension x ↦ named known d.name (is_some x.name) (definition_of d)
]

-- behind a list of them
abbrev pub known_behind : Known → List Declaration → Known
known_behind known [] = known
known_behind known (d ∷ ds) = known_behind (known_after known d) ds

-- where there are no files, no name is known, and nothing is counted
abbrev pub nothing_known : Known
nothing_known = λ t. None

abbrev pub nothing_before : Offsets
nothing_before = record { messages = 0; enums = 0; extensions = 0; services = 0 }

-- what the files of a pool make known, and how much they declare
abbrev pub known_of_files : List FileDescriptorProto → Known
known_of_files fs = known_behind nothing_known (batch_declarations nothing_before 0 fs)

abbrev pub counts_of_files : List FileDescriptorProto → Offsets
counts_of_files fs = past_files nothing_before fs
