-- The fields and extensions that have the type of a map's entries as their type.
use Rattle.std.specs.Prelude.{ℕ, List, [], ◌∷◌, ◌++◌, Bool, false, not, ◌&&◌, ◌==◌, cond, Option, Some, None}
use Rattle.descriptor_records.specs.declared.field.FieldDescriptorProto.{FieldDescriptorProto}
use Rattle.descriptor_records.specs.declared.field.Label.TheVariants as labels
use Rattle.descriptor_records.specs.declared.field.FieldType.TheVariants as types
use Rattle.descriptor_records.specs.FieldNumbers.{label_number, type_number}
use Rattle.reflect_scope.specs.declared.definition.DefinitionKind.{DefinitionKind}
use Rattle.reflect_declarations.specs.Declarations.{Declaration, of_file, of_message, of_field, of_oneof, of_enum, of_enum_value, of_service, of_method, of_extension}
use Rattle.reflect_names.specs.declared.resolve_visitor.Reference.{Reference}
use Rattle.reflect_rules.specs.MapEntries.{is_equal}
use Rattle.reflect_references.specs.Meanings.{meaning, behind, rest_behind}
use Rattle.reflect_rules.specs.TypesSay.{TypesSay}
use Rattle.reflect_rules.specs.Rules.{message_of}
use Rattle.reflect_rules.specs.declared.uses.EntryUse.{EntryUse}
use Rattle.reflect_rules.specs.declared.uses.EntryUse.TheVariants as uses

abbrev pub is_entry_at : TypesSay → ℕ → Option ℕ → Bool
is_entry_at says i None = false
is_entry_at says i (Some j) = j == i && says.is_entry j

-- the field, where it means the entries' type of the index
abbrev pub user : TypesSay → ℕ → Option DefinitionKind → FieldDescriptorProto
    → List FieldDescriptorProto
user says i m f = cond (is_entry_at says i (message_of m)) (f ∷ []) []

abbrev pub users_in : TypesSay → ℕ → List Reference → Declaration → List FieldDescriptorProto
users_in says i rest d = elim d.body [
  | of_file f ↦ []
  | of_message m ↦ []
  | of_field f ↦ user says i (meaning f.type_name rest) f
  | of_oneof o ↦ []
  | of_enum e ↦ []
  | of_enum_value v ↦ []
  | of_service s ↦ []
  | of_method m ↦ []
  | of_extension x ↦ user says i (meaning x.type_name (behind x.extendee rest)) x
]

-- the fields and extensions among declarations whose references mean this
abbrev pub users : TypesSay → ℕ → List Reference → List Declaration → List FieldDescriptorProto
users says i rest [] = []
users says i rest (d ∷ ds) = users_in says i rest d ++ users says i (rest_behind d rest) ds

-- the use that a field makes alone
abbrev pub use_of : FieldDescriptorProto → EntryUse
use_of f = cond (is_equal f.label (label_number labels.Repeated)
    && not (is_equal f.field_type (type_number types.Group))) uses.OneMap uses.Other

-- the use that all of them make
abbrev pub use_by : List FieldDescriptorProto → Option EntryUse
use_by [] = None
use_by (f ∷ []) = Some (use_of f)
use_by (f ∷ g ∷ fs) = Some uses.Other

-- the same behind an earlier use
abbrev pub use_behind : Option EntryUse → List FieldDescriptorProto → Option EntryUse
use_behind u [] = u
use_behind None (f ∷ fs) = use_by (f ∷ fs)
use_behind (Some u) (f ∷ fs) = Some uses.Other
