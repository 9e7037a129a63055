-- What references mean, and what the second pass finds wrong with them.
use Rattle.std.specs.declared.alloc.Global.{Global}
use Rattle.std.specs.Prelude.{ℕ, ℤ, pos, negsuc, List, [], ◌∷◌, ◌++◌, Bool, true, false, not, ◌||◌, ◌&&◌, ◌==◌, cond, nat_le, Option, Some, None, string_bytes, codes, String}
use Rattle.std.specs.Fmt.{signed_decimal}
use Rattle.descriptor_records.specs.declared.field.FieldDescriptorProto.{FieldDescriptorProto}
use Rattle.reflect_scope.specs.declared.definition.Definition.{Definition}
use Rattle.reflect_scope.specs.declared.definition.DefinitionKind.{DefinitionKind}
use Rattle.reflect_scope.specs.declared.definition.DefinitionKind.TheVariants as kind
use Rattle.reflect_scope.specs.declared.definition.ResolveNameFilter.{ResolveNameFilter}
use Rattle.reflect_scope.specs.declared.definition.ResolveNameFilter.TheVariants as filter
use Rattle.reflect_scope.specs.Means.{Meaning, means, not_found, wrong_kind, shadowed, resolve}
use Rattle.reflect_scope.specs.Words.{wanted_words}
use Rattle.reflect_declarations.specs.Declarations.{Declaration, of_file, of_message, of_field, of_oneof, of_enum, of_enum_value, of_service, of_method, of_extension}
use Rattle.reflect_scope.specs.Known.{Known}
use Rattle.reflect_faults.specs.Faults.{Place, Fault, name_not_found, name_shadowed, invalid_type}
use Rattle.reflect_names.specs.Names.{Places}

-- a full name behind a dot, and what is defined there
abbrev pub Target : Type 0
Target = List ℕ × Definition

-- what there is known, and which files are seen
pub record View : Type 0 where
  pub known : Known
  pub sees : ℕ → Bool

abbrev pub meaning_of : View → ResolveNameFilter → List ℕ → List ℕ → Meaning
meaning_of v f scope name = resolve v.known v.sees f scope name

abbrev pub targets : Meaning → List Target
targets (means full d) = (46 ∷ full, d) ∷ []
targets not_found = []
targets wrong_kind = []
targets (shadowed full) = []

-- a fault where a name does not mean what is wanted
abbrev pub unmet : ResolveNameFilter → Meaning → List ℕ → Place → List Fault
unmet f (means full d) name place = []
unmet f not_found name place = name_not_found name place ∷ []
unmet f wrong_kind name place = invalid_type name (wanted_words f) place ∷ []
unmet f (shadowed full) name place = name_shadowed name full place ∷ []

-- the number is one of 1 to the last
abbrev pub is_in : ℤ → ℕ → Bool
is_in (pos n) last = nat_le 1 n && nat_le n last
is_in (negsuc n) last = false

-- groups and messages may have a name that means a message, enums one that means an enum
abbrev pub is_type_of : ℤ → DefinitionKind → Bool
is_type_of (pos n) (kind.Message i) = (n == 10) || (n == 11)
is_type_of (pos n) (kind.Enum i) = n == 14
is_type_of _ _ = false

-- a type, if there is one, may have a name that means this kind; a number of no type is a fault of
-- its own
abbrev pub suits : Option ℤ → DefinitionKind → Bool
suits None k = true
suits (Some n) k = not (is_in n 18) || is_type_of n k

-- the kind of what is meant, if anything is
abbrev pub kind_meant : Meaning → Option DefinitionKind
kind_meant (means full d) = Some d.kind
kind_meant _ = None

-- a reference's target and fault, of the name that stands at a field's number
abbrev pub name_targets : View → ResolveNameFilter → List ℕ → Option (String Global) → List Target
name_targets v f scope None = []
name_targets v f scope (Some name) = targets (meaning_of v f scope (string_bytes name))

abbrev pub reference_faults : Places → View → ResolveNameFilter → List ℤ → List ℕ → ℤ
    → Option (String Global) → List Fault
reference_faults at v f path scope tag None = []
reference_faults at v f path scope tag (Some name) =
    unmet f (meaning_of v f scope (string_bytes name)) (string_bytes name) (at (path ++ (tag ∷ [])))

-- the kind that a field's type name means does not suit its type
abbrev pub mismatch : Places → List ℤ → List ℕ → Option ℤ → Option DefinitionKind → List Fault
mismatch at path name field_type None = []
mismatch at path name field_type (Some k) = cond (suits field_type k) []
    (invalid_type name (codes "of the field's type") (at (path ++ (pos 6 ∷ []))) ∷ [])

abbrev pub type_name_faults : Places → View → List ℤ → List ℕ → FieldDescriptorProto → List Fault
type_name_faults at v path scope f = elim f.type_name [
  | None ↦ []
  | Some name ↦ unmet filter.FieldType (meaning_of v filter.FieldType scope (string_bytes name))
      (string_bytes name) (at (path ++ (pos 6 ∷ [])))
      ++ mismatch at path (string_bytes name) f.field_type
      (kind_meant (meaning_of v filter.FieldType scope (string_bytes name)))
]

-- no label has the number, of which the fault tells the digits
abbrev pub label_faults : Places → List ℤ → Option ℤ → List Fault
label_faults at path None = []
label_faults at path (Some n) = cond (is_in n 3) []
    (invalid_type (signed_decimal n) (codes "a field label") (at (path ++ (pos 4 ∷ []))) ∷ [])

-- no type has the number
abbrev pub type_faults : Places → List ℤ → Option ℤ → List Fault
type_faults at path None = []
type_faults at path (Some n) = cond (is_in n 18) []
    (invalid_type (signed_decimal n) (codes "a field type") (at (path ++ (pos 5 ∷ []))) ∷ [])

abbrev pub field_reference_faults : Places → View → List ℤ → List ℕ → FieldDescriptorProto
    → List Fault
field_reference_faults at v path scope f =
    label_faults at path f.label ++ (type_faults at path f.field_type
    ++ type_name_faults at v path scope f)

-- the targets of a declaration's references, in the order of their numbers
abbrev pub targets_of : View → Declaration → List Target
targets_of v d = elim d.body [
  | of_file f ↦ []
  | of_message m ↦ []
  | of_field f ↦ name_targets v filter.FieldType d.name f.type_name
  | of_oneof o ↦ []
  | of_enum e ↦ []
  | of_enum_value x ↦ []
  | of_service s ↦ []
  | of_method m ↦ name_targets v filter.Message d.name m.input_type
      ++ name_targets v filter.Message d.name m.output_type
  | of_extension x ↦ name_targets v filter.Message d.name x.extendee
      ++ name_targets v filter.FieldType d.name x.type_name
]

abbrev pub reference_faults_at : Places → View → Declaration → List Fault
reference_faults_at at v d = elim d.body [
  | of_file f ↦ []
  | of_message m ↦ []
  | of_field f ↦ field_reference_faults at v d.path d.name f
  | of_oneof o ↦ []
  | of_enum e ↦ []
  | of_enum_value x ↦ []
  | of_service s ↦ []
  | of_method m ↦ reference_faults at v filter.Message d.path d.name (pos 2) m.input_type
      ++ reference_faults at v filter.Message d.path d.name (pos 3) m.output_type
  | of_extension x ↦ reference_faults at v filter.Message d.path d.name (pos 2) x.extendee
      ++ field_reference_faults at v d.path d.name x
]
