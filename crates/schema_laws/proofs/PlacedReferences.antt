-- The faults of references stand at paths of their files.
use Rattle.std.specs.declared.alloc.Global.{Global}
use Rattle.std.proofs.Common.{ℕ, ℤ, pos, List, [], ◌∷◌, ◌++◌, Option, None, Some, String, codes, refl}
use Rattle.std.specs.Fmt.{signed_decimal}
use Rattle.std.specs.Prelude.{string_bytes}
use Rattle.descriptor_records.specs.declared.field.FieldDescriptorProto.{FieldDescriptorProto}
use Rattle.reflect_declarations.specs.Declarations.{Body, Declaration, of_enum, of_enum_value, of_extension, of_field, of_file, of_message, of_method, of_oneof, of_service}
use Rattle.reflect_faults.specs.Faults.{invalid_type, name_not_found, name_shadowed}
use Rattle.reflect_names.specs.Names.{Places}
use Rattle.reflect_names.specs.ReferencePass.{reference_faults_along}
use Rattle.reflect_names.specs.References.{View, field_reference_faults, is_in, kind_meant, label_faults, meaning_of, mismatch, reference_faults, reference_faults_at, suits, type_faults, type_name_faults, unmet}
use Rattle.reflect_scope.specs.Means.{Meaning, means, not_found, shadowed, wrong_kind}
use Rattle.reflect_scope.specs.Words.{wanted_words}
use Rattle.reflect_scope.specs.declared.definition.DefinitionKind.{DefinitionKind}
use Rattle.reflect_scope.specs.declared.definition.ResolveNameFilter.{ResolveNameFilter}
use Rattle.reflect_scope.specs.declared.definition.ResolveNameFilter.TheVariants as filter
use Rattle.schema_laws.proofs.Placed.{AllStand, AreIn, both, joined, no_fault, none, of_file_at, one, unless_so}

module _ (at : Places) where
  unmet_in : (f : ResolveNameFilter) (m : Meaning) (name : List ℕ) (path : List ℤ) → AreIn at (unmet f m name (at path))
  unmet_in f (means full d) name path = none at
  unmet_in f not_found name path = one at (name_not_found name (at path)) path refl
  unmet_in f wrong_kind name path = one at (invalid_type name (wanted_words f) (at path)) path refl
  unmet_in f (shadowed full) name path = one at (name_shadowed name full (at path)) path refl

  reference_in : (v : View) (f : ResolveNameFilter) (path : List ℤ) (scope : List ℕ) (tag : ℤ) (name : Option (String Global)) → AreIn at (reference_faults at v f path scope tag name)
  reference_in v f path scope tag None = none at
  reference_in v f path scope tag (Some name) = unmet_in f (meaning_of v f scope (string_bytes name)) (string_bytes name) (path ++ (tag ∷ []))

  mismatch_in : (path : List ℤ) (name : List ℕ) (type : Option ℤ) (k : Option DefinitionKind) → AreIn at (mismatch at path name type k)
  mismatch_in path name type None = none at
  mismatch_in path name type (Some k) = unless_so at (suits type k) (invalid_type name (codes "of the field's type") (at (path ++ (pos 6 ∷ [])))) (path ++ (pos 6 ∷ [])) refl

  type_name_in : (v : View) (path : List ℤ) (scope : List ℕ) (f : FieldDescriptorProto) → AreIn at (type_name_faults at v path scope f)
  type_name_in v path scope f = by f.type_name where
    by : (o : Option (String Global)) → AreIn at (type_name_faults at v path scope (record f { type_name = o }))
    by None = none at
    by (Some name) =
        let m = meaning_of v filter.FieldType scope (string_bytes name) in
        both at (unmet filter.FieldType m (string_bytes name) (at (path ++ (pos 6 ∷ [])))) (mismatch at path (string_bytes name) f.field_type (kind_meant m))
        (unmet_in filter.FieldType m (string_bytes name) (path ++ (pos 6 ∷ []))) (mismatch_in path (string_bytes name) f.field_type (kind_meant m))

  label_in : (path : List ℤ) (label : Option ℤ) → AreIn at (label_faults at path label)
  label_in path None = none at
  label_in path (Some n) = unless_so at (is_in n 3) (invalid_type (signed_decimal n) (codes "a field label") (at (path ++ (pos 4 ∷ [])))) (path ++ (pos 4 ∷ [])) refl

  type_in : (path : List ℤ) (type : Option ℤ) → AreIn at (type_faults at path type)
  type_in path None = none at
  type_in path (Some n) = unless_so at (is_in n 18) (invalid_type (signed_decimal n) (codes "a field type") (at (path ++ (pos 5 ∷ [])))) (path ++ (pos 5 ∷ [])) refl

  field_in : (v : View) (path : List ℤ) (scope : List ℕ) (f : FieldDescriptorProto) → AreIn at (field_reference_faults at v path scope f)
  field_in v path scope f =
      both at (label_faults at path f.label) (type_faults at path f.field_type ++ type_name_faults at v path scope f) (label_in path f.label)
      (both at (type_faults at path f.field_type) (type_name_faults at v path scope f) (type_in path f.field_type) (type_name_in v path scope f))

  declaration_in : (v : View) (d : Declaration) → AreIn at (reference_faults_at at v d)
  declaration_in v d = by d.body where
    by : (b : Body) → AreIn at (reference_faults_at at v (record d { body = b }))
    by (of_file f) = none at
    by (of_message m) = none at
    by (of_field f) = field_in v d.path d.name f
    by (of_oneof o) = none at
    by (of_enum e) = none at
    by (of_enum_value x) = none at
    by (of_service s) = none at
    by (of_method m) =
        both at (reference_faults at v filter.Message d.path d.name (pos 2) m.input_type) (reference_faults at v filter.Message d.path d.name (pos 3) m.output_type)
        (reference_in v filter.Message d.path d.name (pos 2) m.input_type) (reference_in v filter.Message d.path d.name (pos 3) m.output_type)
    by (of_extension x) =
        both at (reference_faults at v filter.Message d.path d.name (pos 2) x.extendee) (field_reference_faults at v d.path d.name x)
        (reference_in v filter.Message d.path d.name (pos 2) x.extendee) (field_in v d.path d.name x)

pub references_stand : (at : ℕ → Places) (views : ℕ → View) (ds : List Declaration) → AllStand at (reference_faults_along at views ds)
references_stand at views [] = no_fault at
references_stand at views (d ∷ ds) =
    joined at (reference_faults_at (at d.file) (views d.file) d) (reference_faults_along at views ds)
    (of_file_at at d.file (reference_faults_at (at d.file) (views d.file) d) (declaration_in (at d.file) (views d.file) d)) (references_stand at views ds)
