-- The faults of names stand at paths of their files.
use Rattle.std.specs.declared.alloc.Global.{Global}
use Rattle.std.proofs.Common.{◌+◌, ℕ, ℤ, pos, Bool, true, false, not, ◌||◌, List, [], ◌∷◌, ◌++◌, Option, None, Some, String, codes, length, refl}
use Rattle.std.specs.Prelude.{is_some, string_bytes}
use Rattle.std.specs.Str.{bytes_eq}
use Rattle.descriptor_records.specs.declared.field.FieldDescriptorProto.{FieldDescriptorProto}
use Rattle.descriptor_records.specs.declared.file.FileDescriptorProto.{FileDescriptorProto}
use Rattle.descriptor_records.specs.declared.service.MethodDescriptorProto.{MethodDescriptorProto}
use Rattle.reflect_declarations.specs.Batches.{batch_declarations}
use Rattle.reflect_declarations.specs.Declarations.{Body, Declaration, each, entry, of_enum, of_enum_value, of_extension, of_field, of_file, of_message, of_method, of_oneof, of_service}
use Rattle.reflect_declarations.specs.declared.offsets.Offsets.{Offsets}
use Rattle.reflect_declarations.specs.Tree.{text_of}
use Rattle.reflect_known.specs.KnownNames.{definition_of, known_after, package_of}
use Rattle.reflect_faults.specs.Faults.{Fault, bad_import_index, batch_places, duplicate_file, duplicate_name, file_not_found, missing, unknown_syntax}
use Rattle.reflect_names.specs.FileNames.{file_faults, files_faults, with_file, with_files}
use Rattle.reflect_names.specs.NamePass.{faults_along}
use Rattle.reflect_names.specs.Names.{Places, bound_faults, enum_range_faults, extension_range_faults, faults_at, field_faults, import_fault, import_faults, is_named_type, lacks, method_faults, name_faults, package_faults, public_fault, reserved_range_faults, syntax_faults, taken}
use Rattle.reflect_passes.specs.NameFaults as passes
use Rattle.reflect_scope.specs.FileIndexes.{Indexes, is_index}
use Rattle.reflect_scope.specs.Known.{Known, declared, is_taken}
use Rattle.reflect_scope.specs.Means.{scopes}
use Rattle.reflect_scope.specs.declared.definition.Definition.{Definition}
use Rattle.schema_laws.proofs.Placed.{AllStand, AreIn, both, each_in, joined, no_fault, none, of_file_at, one, unless_so, where_so}

-- ---- one declaration

module _ (at : Places) where
  lacks_in : (path : List ℤ) (tag : ℤ) (field : List ℕ) (b : Bool) → AreIn at (lacks at path tag field b)
  lacks_in path tag field true = none at
  lacks_in path tag field false = one at (missing field (at (path ++ (tag ∷ [])))) (path ++ (tag ∷ [])) refl

  taken_in : (known : Known) (path : List ℤ) (tag : ℤ) (name : List ℕ) (d : Definition) → AreIn at (taken at known path tag name d)
  taken_in known path tag name d = where_so at (is_taken known name d) (duplicate_name name (at (path ++ (tag ∷ [])))) (path ++ (tag ∷ [])) refl

  name_in : (known : Known) (path : List ℤ) (name : List ℕ) (named : Bool) (d : Definition) → AreIn at (name_faults at known path name named d)
  name_in known path name true d = taken_in known path (pos 1) name d
  name_in known path name false d = lacks_in path (pos 1) (codes "name") false

  package_in : (known : Known) (file : ℕ) (ss : List (List ℕ)) → AreIn at (package_faults at known file ss)
  package_in known file [] = none at
  package_in known file ([] ∷ ss) = package_in known file ss
  package_in known file ((b ∷ bs) ∷ ss) =
      both at (taken at known [] (pos 2) (b ∷ bs) (package_of file)) (package_faults at (declared known (b ∷ bs) (package_of file)) file ss)
      (taken_in known [] (pos 2) (b ∷ bs) (package_of file)) (package_in (declared known (b ∷ bs) (package_of file)) file ss)

  field_in : (path : List ℤ) (f : FieldDescriptorProto) → AreIn at (field_faults at path f)
  field_in path f =
      let number = lacks at path (pos 3) (codes "number") (is_some f.number) in
      let type = lacks at path (pos 5) (codes "type") (is_some f.type_name || is_some f.field_type) in
      let name = lacks at path (pos 6) (codes "type_name") (is_some f.type_name || not (is_named_type f.field_type)) in
      both at number (type ++ name) (lacks_in path (pos 3) (codes "number") (is_some f.number))
      (both at type name (lacks_in path (pos 5) (codes "type") (is_some f.type_name || is_some f.field_type))
      (lacks_in path (pos 6) (codes "type_name") (is_some f.type_name || not (is_named_type f.field_type))))

  method_in : (path : List ℤ) (m : MethodDescriptorProto) → AreIn at (method_faults at path m)
  method_in path m =
      both at (lacks at path (pos 2) (codes "input_type") (is_some m.input_type)) (lacks at path (pos 3) (codes "output_type") (is_some m.output_type))
      (lacks_in path (pos 2) (codes "input_type") (is_some m.input_type)) (lacks_in path (pos 3) (codes "output_type") (is_some m.output_type))

  bound_in : (path : List ℤ) (start end : Option ℤ) → AreIn at (bound_faults at path start end)
  bound_in path start end =
      both at (lacks at path (pos 1) (codes "start") (is_some start)) (lacks at path (pos 2) (codes "end") (is_some end))
      (lacks_in path (pos 1) (codes "start") (is_some start)) (lacks_in path (pos 2) (codes "end") (is_some end))

  import_in : (files : List ℕ → Option ℕ) (f : FileDescriptorProto) → AreIn at (import_faults at files f)
  import_in files f =
      both at (each (import_fault at files) 0 f.dependency.items) (each (public_fault at (length f.dependency.items)) 0 f.public_dependency.items)
      (each_in at (import_fault at files) one_import 0 f.dependency.items)
      (each_in at (public_fault at (length f.dependency.items)) (one_public (length f.dependency.items)) 0 f.public_dependency.items)
    where
      one_import : (k : ℕ) (name : String Global) → AreIn at (import_fault at files k name)
      one_import k name = unless_so at (is_some (files (string_bytes name))) (file_not_found (string_bytes name) (at (entry [] (pos 3) k))) (entry [] (pos 3) k) refl

      one_public : (count k : ℕ) (i : ℤ) → AreIn at (public_fault at count k i)
      one_public count k i = unless_so at (is_index i count) (bad_import_index i (at (entry [] (pos 10) k))) (entry [] (pos 10) k) refl

  syntax_in : (o : Option (String Global)) → AreIn at (syntax_faults at o)
  syntax_in None = none at
  syntax_in (Some s) =
      unless_so at (bytes_eq (string_bytes s) (codes "proto2") || bytes_eq (string_bytes s) (codes "proto3")) (unknown_syntax (string_bytes s) (at (pos 12 ∷ []))) (pos 12 ∷ []) refl

  declaration_in : (known : Known) (files : List ℕ → Option ℕ) (d : Declaration) → AreIn at (faults_at at known files d)
  declaration_in known files d = by d.body where
    -- behind those of its name, whatever body it has
    behind_name : (b : Body) (named : Bool) (more : List Fault) → AreIn at more
        → AreIn at (name_faults at known d.path d.name named (definition_of (record d { body = b })) ++ more)
    behind_name b named more are =
        let defined = definition_of (record d { body = b }) in
        both at (name_faults at known d.path d.name named defined) more (name_in known d.path d.name named defined) are

    by : (b : Body) → AreIn at (faults_at at known files (record d { body = b }))
    by (of_file f) =
        both at (import_faults at files f) (syntax_faults at f.syntax ++ package_faults at known d.file (scopes (text_of f.package))) (import_in files f)
        (both at (syntax_faults at f.syntax) (package_faults at known d.file (scopes (text_of f.package))) (syntax_in f.syntax) (package_in known d.file (scopes (text_of f.package))))
    by (of_message m) =
        let kept = each (extension_range_faults at d.path) 0 m.extension_range in
        let reserved = each (reserved_range_faults at d.path) 0 m.reserved_range in
        behind_name (of_message m) (is_some m.name) (kept ++ reserved)
        (both at kept reserved
        (each_in at (extension_range_faults at d.path) (λ k r. bound_in (entry d.path (pos 5) k) r.start r.end) 0 m.extension_range)
        (each_in at (reserved_range_faults at d.path) (λ k r. bound_in (entry d.path (pos 9) k) r.start r.end) 0 m.reserved_range))
    by (of_field f) = behind_name (of_field f) (is_some f.name) (field_faults at d.path f) (field_in d.path f)
    by (of_oneof o) = name_in known d.path d.name (is_some o.name) (definition_of (record d { body = of_oneof o }))
    by (of_enum e) =
        behind_name (of_enum e) (is_some e.name) (each (enum_range_faults at d.path) 0 e.reserved_range.items)
        (each_in at (enum_range_faults at d.path) (λ k r. bound_in (entry d.path (pos 4) k) r.start r.end) 0 e.reserved_range.items)
    by (of_enum_value v) =
        behind_name (of_enum_value v) (is_some v.name) (lacks at d.path (pos 2) (codes "number") (is_some v.number)) (lacks_in d.path (pos 2) (codes "number") (is_some v.number))
    by (of_service s) = name_in known d.path d.name (is_some s.name) (definition_of (record d { body = of_service s }))
    by (of_method m) = behind_name (of_method m) (is_some m.name) (method_faults at d.path m) (method_in d.path m)
    by (of_extension x) =
        let extendee = lacks at d.path (pos 2) (codes "extendee") (is_some x.extendee) in
        behind_name (of_extension x) (is_some x.name) (field_faults at d.path x ++ extendee)
        (both at (field_faults at d.path x) extendee (field_in d.path x) (lacks_in d.path (pos 2) (codes "extendee") (is_some x.extendee)))

-- ---- files

file_in : (at : Places) (known : Indexes) (name : Option (String Global)) → AreIn at (file_faults at known name)
file_in at known None = one at (missing (codes "name") (at (pos 1 ∷ []))) (pos 1 ∷ []) refl
file_in at known (Some s) = where_so at (is_some (known (string_bytes s))) (duplicate_file (string_bytes s) (at (pos 1 ∷ []))) (pos 1 ∷ []) refl

module _ (at : ℕ → Places) where
  files_stand : (known : Indexes) (i : ℕ) (fs : List FileDescriptorProto) → AllStand at (files_faults at known i fs)
  files_stand known i [] = no_fault at
  files_stand known i (f ∷ fs) =
      joined at (file_faults (at i) known f.name) (files_faults at (with_file known i f.name) (i + 1) fs)
      (of_file_at at i (file_faults (at i) known f.name) (file_in (at i) known f.name)) (files_stand (with_file known i f.name) (i + 1) fs)

  along_stand : (files : List ℕ → Option ℕ) (known : Known) (ds : List Declaration) → AllStand at (faults_along at files known ds)
  along_stand files known [] = no_fault at
  along_stand files known (d ∷ ds) =
      joined at (faults_at (at d.file) known files d) (faults_along at files (known_after known d) ds)
      (of_file_at at d.file (faults_at (at d.file) known files d) (declaration_in (at d.file) known files d)) (along_stand files (known_after known d) ds)

pub names_stand : (indexes : Indexes) (known : Known) (before : Offsets) (first : ℕ) (files : List FileDescriptorProto)
    → AllStand (batch_places files first) (passes.name_faults indexes known before first files)
names_stand indexes known before first files =
    joined (batch_places files first) (files_faults (batch_places files first) indexes first files)
    (faults_along (batch_places files first) (with_files indexes first files) known (batch_declarations before first files))
    (files_stand (batch_places files first) indexes first files)
    (along_stand (batch_places files first) (with_files indexes first files) known (batch_declarations before first files))
