-- What files make known, and how much they declare, is told by the names that they give.
use Rattle.std.proofs.Common.{◌≡◌, ℕ, ℤ, pos, ◌+◌, List, [], ◌∷◌, ◌++◌, map, length, Bool, cond, Option, Some, None, is_some, String, Global, ap, sym, ◌∙◌, refl}
use Rattle.std.proofs.lemmas.List.{map-append, length-map}
use Rattle.descriptor_records.specs.Content.{text_view}
use Rattle.descriptor_records.specs.declared.enums.EnumDescriptorProto.{EnumDescriptorProto}
use Rattle.descriptor_records.specs.declared.enums.EnumValueDescriptorProto.{EnumValueDescriptorProto}
use Rattle.descriptor_records.specs.declared.field.FieldDescriptorProto.{FieldDescriptorProto}
use Rattle.descriptor_records.specs.declared.field.OneofDescriptorProto.{OneofDescriptorProto}
use Rattle.descriptor_records.specs.declared.file.FileDescriptorProto.{FileDescriptorProto}
use Rattle.descriptor_records.specs.declared.service.MethodDescriptorProto.{MethodDescriptorProto}
use Rattle.descriptor_records.specs.declared.service.ServiceDescriptorProto.{ServiceDescriptorProto}
use Rattle.reflect_scope.specs.declared.definition.Definition.{Definition}
use Rattle.reflect_scope.specs.declared.definition.DefinitionKind.{DefinitionKind}
use Rattle.reflect_scope.specs.declared.definition.DefinitionKind.TheVariants as kind
use Rattle.reflect_scope.specs.Known.{Known}
use Rattle.reflect_scope.specs.Means.{scopes, join}
use Rattle.reflect_declarations.specs.Tree.{text_of, Message, message, Messages, no_messages, more_messages}
use Rattle.reflect_declarations.specs.Declarations.{Declaration, Body, of_file, of_message, of_field, of_oneof, of_enum, of_enum_value, of_service, of_method, of_extension, entry, each, one_field, one_oneof, one_value, one_enum, one_method, one_service, one_extension, past_message, past_enums, past_extensions, past_services, past_tree, past_trees, past_file, trees_of, tree_declarations, trees_declarations, file_declarations}
use Rattle.reflect_declarations.specs.Batches.{batch_declarations, past_files}
use Rattle.reflect_tables.specs.Names.{Sort, FullName, place_of}
use Rattle.reflect_tables.specs.Names as sorts
use Rattle.reflect_known.specs.DeclaredNames.{is_of, with_name, with_names}
use Rattle.reflect_known.specs.KnownNames.{kind_of, definition_of, named, packages, known_after, known_behind}
use Rattle.reflect_known.specs.GivenNames.{Given, EnumNames, ServiceNames, MessageNames, message_names, NestedNames, no_names, more_names, FileNames, field_name, oneof_name, value_name, enum_names, method_name, service_names, names_in, names_in_each, names_of_file}
use Rattle.reflect_declarations.specs.declared.offsets.Offsets.{Offsets}

-- what a declaration adds to the known names: a package with those around it, or a name, if it is
-- given
data Addition : Type 0 where
  a_package : List ℕ → ℕ → Addition
  a_name : List ℕ → Bool → Definition → Addition

abbrev addition : Declaration → Addition
addition d = elim d.body [
  | of_file f ↦ a_package (text_of f.package) d.file
  | of_message m ↦ a_name d.name (is_some m.name) (definition_of d)
  | of_field f ↦ a_name d.name (is_some f.name) (definition_of d)
  | of_oneof o ↦ a_name d.name (is_some o.name) (definition_of d)
  | of_enum e ↦ a_name d.name (is_some e.name) (definition_of d)
  | of_enum_value v ↦ a_name d.name (is_some v.name) (definition_of d)
  | of_service s ↦ a_name d.name (is_some s.name) (definition_of d)
  | of_method m ↦ a_name d.name (is_some m.name) (definition_of d)
  | of_extension x ↦ a_name d.name (is_some x.name) (definition_of d)
]

abbrev after : Known → Addition → Known
after known (a_package name file) = packages known file (scopes name)
after known (a_name name is_given d) = named known name is_given d

abbrev behind : Known → List Addition → Known
behind known [] = known
behind known (a ∷ more) = behind (after known a) more

abbrev name_behind : Sort → List FullName → Addition → List FullName
name_behind s names (a_package name file) = names
name_behind s names (a_name name is_given d) =
    cond (is_some (place_of s d.kind)) (names ++ (name, d.file) ∷ []) names

abbrev names_behind : Sort → List FullName → List Addition → List FullName
names_behind s names [] = names
names_behind s names (a ∷ more) = names_behind s (name_behind s names a) more

module _ (known : Known) (path : List ℤ) (name : List ℕ) (file : ℕ) (parent : Option ℕ) (index : ℕ)
  where
    abbrev declaration : Body → Declaration
    declaration body = record {
      path = path;
      name = name;
      file = file;
      parent = parent;
      index = index;
      body = body;
    }

    after_body : (body : Body) → known_after known (declaration body)
        ≡ after known (addition (declaration body))
    after_body (of_file f) = refl
    after_body (of_message m) = refl
    after_body (of_field f) = refl
    after_body (of_oneof o) = refl
    after_body (of_enum e) = refl
    after_body (of_enum_value v) = refl
    after_body (of_service s) = refl
    after_body (of_method m) = refl
    after_body (of_extension x) = refl

    sort_of : (s : Sort) (body : Body) → is_of s body
        ≡ is_some (place_of s (kind_of (declaration body)))
    sort_of s (of_file f) = refl
    sort_of s (of_field f) = refl
    sort_of s (of_oneof o) = refl
    sort_of s (of_enum_value v) = refl
    sort_of s (of_method m) = refl
    sort_of sorts.messages (of_message m) = refl
    sort_of sorts.messages (of_enum e) = refl
    sort_of sorts.messages (of_service v) = refl
    sort_of sorts.messages (of_extension x) = refl
    sort_of sorts.enums (of_message m) = refl
    sort_of sorts.enums (of_enum e) = refl
    sort_of sorts.enums (of_service v) = refl
    sort_of sorts.enums (of_extension x) = refl
    sort_of sorts.extensions (of_message m) = refl
    sort_of sorts.extensions (of_enum e) = refl
    sort_of sorts.extensions (of_service v) = refl
    sort_of sorts.extensions (of_extension x) = refl
    sort_of sorts.services (of_message m) = refl
    sort_of sorts.services (of_enum e) = refl
    sort_of sorts.services (of_service v) = refl
    sort_of sorts.services (of_extension x) = refl

    name_of_body : (s : Sort) (names : List FullName) (body : Body)
        → with_name s names (declaration body) ≡ name_behind s names (addition (declaration body))
    name_of_body s names (of_file f) = refl
    name_of_body s names (of_message m) =
        ap (λ b. cond b (names ++ (name, file) ∷ []) names) (sort_of s (of_message m))
    name_of_body s names (of_field f) = refl
    name_of_body s names (of_oneof o) = refl
    name_of_body s names (of_enum e) =
        ap (λ b. cond b (names ++ (name, file) ∷ []) names) (sort_of s (of_enum e))
    name_of_body s names (of_enum_value v) = refl
    name_of_body s names (of_service v) =
        ap (λ b. cond b (names ++ (name, file) ∷ []) names) (sort_of s (of_service v))
    name_of_body s names (of_method m) = refl
    name_of_body s names (of_extension x) =
        ap (λ b. cond b (names ++ (name, file) ∷ []) names) (sort_of s (of_extension x))

behind_additions : (known : Known) (ds : List Declaration) → known_behind known ds
    ≡ behind known (map addition ds)
behind_additions known [] = refl
behind_additions known (d ∷ ds) =
    behind_additions (known_after known d) ds
    ∙ ap (λ k. behind k (map addition ds))
    (after_body known d.path d.name d.file d.parent d.index d.body)

names_additions : (s : Sort) (names : List FullName) (ds : List Declaration) → with_names s names ds
    ≡ names_behind s names (map addition ds)
names_additions s names [] = refl
names_additions s names (d ∷ ds) =
    names_additions s (with_name s names d) ds
    ∙ ap (λ ns. names_behind s ns (map addition ds))
    (name_of_body (λ t. None) d.path d.name d.file d.parent d.index s names d.body)

abbrev text : Given → List ℕ
text None = []
text (Some t) = t

texts : (o : Option (String Global)) → text_of o ≡ text (text_view o)
texts None = refl
texts (Some s) = refl

abbrev add : List ℕ → ℕ → DefinitionKind → Given → Addition
add scope file k name = a_name (join scope (text name)) (is_some name)
    (record { file = file; kind = k })

adds : (scope : List ℕ) (file : ℕ) (k : DefinitionKind) (o : Option (String Global))
    → a_name (join scope (text_of o)) (is_some o) (record { file = file; kind = k })
    ≡ add scope file k (text_view o)
adds scope file k None = refl
adds scope file k (Some s) = refl

alone : (scope : List ℕ) (file : ℕ) (k : DefinitionKind) (o : Option (String Global))
    → a_name (join scope (text_of o)) (is_some o) (record { file = file; kind = k }) ∷ []
    ≡ add scope file k (text_view o) ∷ []
alone scope file k o = ap (λ a. a ∷ []) (adds scope file k o)

both : (xs ys : List Declaration) (us vs : List Addition) → map addition xs ≡ us → map addition ys
    ≡ vs → map addition (xs ++ ys) ≡ us ++ vs
both xs ys us vs e f =
    map-append addition xs ys ∙ ap (λ l. l ++ map addition ys) e ∙ ap (λ l. us ++ l) f

each_adds : {A B : Type 0} (one : ℕ → A → List Declaration) (two : ℕ → B → List Addition)
    (view : A → B) → ((k : ℕ) (x : A) → map addition (one k x) ≡ two k (view x))
    → (k : ℕ) (xs : List A) → map addition (each one k xs) ≡ each two k (map view xs)
each_adds one two view step k [] = refl
each_adds one two view step k (x ∷ xs) =
    both (one k x) (each one (k + 1) xs) (two k (view x)) (each two (k + 1) (map view xs))
    (step k x) (each_adds one two view step (k + 1) xs)

-- the same walk over names alone
module _ (scope : List ℕ) (file : ℕ) where
  abbrev add_field : ℕ → Given → List Addition
  add_field k name = add scope file kind.Field name ∷ []

  abbrev add_oneof : ℕ → Given → List Addition
  add_oneof k name = add scope file kind.Oneof name ∷ []

  abbrev add_value : ℕ → Given → List Addition
  add_value k name = add scope file kind.EnumValue name ∷ []

  abbrev add_method : ℕ → Given → List Addition
  add_method k name = add scope file kind.Method name ∷ []

  abbrev add_extension : ℕ → ℕ → Given → List Addition
  add_extension first k name = add scope file (kind.Extension (first + k)) name ∷ []

  abbrev add_enum : ℕ → ℕ → EnumNames → List Addition
  add_enum first k e = add scope file (kind.Enum (first + k)) e.name ∷ each add_value 0 e.values

abbrev add_service : List ℕ → ℕ → ℕ → ℕ → ServiceNames → List Addition
add_service scope file first k s =
    add scope file (kind.Service (first + k)) s.name
    ∷ each (add_method (join scope (text s.name)) file) 0 s.methods

abbrev mutual
  past_message_names : Offsets → MessageNames → Offsets
  past_message_names o (message_names name fields nested enums extensions oneofs) =
      past_extensions (past_enums (past_nested (past_message o) nested) (length enums))
      (length extensions)

  past_nested : Offsets → NestedNames → Offsets
  past_nested o no_names = o
  past_nested o (more_names m ms) = past_nested (past_message_names o m) ms

abbrev mutual
  add_message : List ℕ → ℕ → Offsets → MessageNames → List Addition
  add_message scope file o (message_names name fields nested enums extensions oneofs) =
      add scope file (kind.Message o.messages) name
      ∷ (each (add_field (join scope (text name)) file) 0 fields
      ++ (add_nested (join scope (text name)) file (past_message o) nested
      ++ (each (add_enum (join scope (text name)) file (past_nested (past_message o) nested).enums)
      0 enums
      ++ (each (add_extension (join scope (text name)) file
      (past_nested (past_message o) nested).extensions) 0 extensions
      ++ each (add_oneof (join scope (text name)) file) 0 oneofs))))

  add_nested : List ℕ → ℕ → Offsets → NestedNames → List Addition
  add_nested scope file o no_names = []
  add_nested scope file o (more_names m ms) =
      add_message scope file o m ++ add_nested scope file (past_message_names o m) ms

abbrev add_file : Offsets → ℕ → FileNames → List Addition
add_file o file f =
    a_package (text f.package_name) file
    ∷ (add_nested (text f.package_name) file o f.messages
    ++ (each (add_enum (text f.package_name) file (past_nested o f.messages).enums) 0 f.enums
    ++ (each (add_service (text f.package_name) file o.services) 0 f.services
    ++ each (add_extension (text f.package_name) file (past_nested o f.messages).extensions) 0
    f.extensions)))

abbrev past_file_names : Offsets → FileNames → Offsets
past_file_names o f =
    past_extensions (past_services (past_enums (past_nested o f.messages) (length f.enums))
    (length f.services)) (length f.extensions)

abbrev add_files : Offsets → ℕ → List FileNames → List Addition
add_files o i [] = []
add_files o i (f ∷ fs) = add_file o i f ++ add_files (past_file_names o f) (i + 1) fs

abbrev past_files_names : Offsets → List FileNames → Offsets
past_files_names o [] = o
past_files_names o (f ∷ fs) = past_files_names (past_file_names o f) fs

-- the parts of a message and of a file
module _ (path : List ℤ) (tag : ℤ) (scope : List ℕ) (file : ℕ) where
  fields_add : (parent : ℕ) (fs : List FieldDescriptorProto)
      → map addition (each (one_field path scope file parent) 0 fs)
      ≡ each (add_field scope file) 0 (map field_name fs)
  fields_add parent =
      each_adds (one_field path scope file parent) (add_field scope file) field_name
      (λ k f. alone scope file kind.Field f.name) 0

  oneofs_add : (parent : ℕ) (os : List OneofDescriptorProto)
      → map addition (each (one_oneof path scope file parent) 0 os)
      ≡ each (add_oneof scope file) 0 (map oneof_name os)
  oneofs_add parent =
      each_adds (one_oneof path scope file parent) (add_oneof scope file) oneof_name
      (λ k o. alone scope file kind.Oneof o.name) 0

  extensions_add : (parent : Option ℕ) (first : ℕ) (xs : List FieldDescriptorProto)
      → map addition (each (one_extension path tag scope file parent first) 0 xs)
      ≡ each (add_extension scope file first) 0 (map field_name xs)
  extensions_add parent first =
      each_adds (one_extension path tag scope file parent first) (add_extension scope file first)
      field_name (λ k x. alone scope file (kind.Extension (first + k)) x.name) 0

  values_add : (parent : ℕ) (vs : List EnumValueDescriptorProto)
      → map addition (each (one_value path scope file parent) 0 vs)
      ≡ each (add_value scope file) 0 (map value_name vs)
  values_add parent =
      each_adds (one_value path scope file parent) (add_value scope file) value_name
      (λ k v. alone scope file kind.EnumValue v.name) 0

  methods_add : (parent : ℕ) (ms : List MethodDescriptorProto)
      → map addition (each (one_method path scope file parent) 0 ms)
      ≡ each (add_method scope file) 0 (map method_name ms)
  methods_add parent =
      each_adds (one_method path scope file parent) (add_method scope file) method_name
      (λ k m. alone scope file kind.Method m.name) 0

enum_adds : (path : List ℤ) (tag : ℤ) (scope : List ℕ) (file : ℕ) (parent : Option ℕ) (first k : ℕ)
    (e : EnumDescriptorProto) → map addition (one_enum path tag scope file parent first k e)
    ≡ add_enum scope file first k (enum_names e)
enum_adds path tag scope file parent first k e =
    ap (λ a. a ∷ map addition
    (each (one_value (entry path tag k) scope file (first + k)) 0 e.value.items))
    (adds scope file (kind.Enum (first + k)) e.name)
    ∙ ap (λ l. add scope file (kind.Enum (first + k)) (text_view e.name) ∷ l)
    (values_add (entry path tag k) tag scope file (first + k) e.value.items)

enums_add : (path : List ℤ) (tag : ℤ) (scope : List ℕ) (file : ℕ) (parent : Option ℕ) (first : ℕ)
    (es : List EnumDescriptorProto) → map addition
    (each (one_enum path tag scope file parent first) 0 es)
    ≡ each (add_enum scope file first) 0 (map enum_names es)
enums_add path tag scope file parent first =
    each_adds (one_enum path tag scope file parent first) (add_enum scope file first) enum_names
    (enum_adds path tag scope file parent first) 0

service_adds : (scope : List ℕ) (file first k : ℕ) (s : ServiceDescriptorProto)
    → map addition (one_service scope file first k s)
    ≡ add_service scope file first k (service_names s)
service_adds scope file first k s =
    let path = entry [] (pos 6) k in
    let names = map method_name s.method.items in
    ap (λ a. a ∷ map addition
    (each (one_method path (join scope (text_of s.name)) file (first + k)) 0 s.method.items))
    (adds scope file (kind.Service (first + k)) s.name)
    ∙ ap (λ l. add scope file (kind.Service (first + k)) (text_view s.name) ∷ l)
    (methods_add path (pos 2) (join scope (text_of s.name)) file (first + k) s.method.items)
    ∙ ap (λ t. add scope file (kind.Service (first + k)) (text_view s.name)
    ∷ each (add_method (join scope t) file) 0 names) (texts s.name)

services_add : (scope : List ℕ) (file first : ℕ) (ss : List ServiceDescriptorProto)
    → map addition (each (one_service scope file first) 0 ss)
    ≡ each (add_service scope file first) 0 (map service_names ss)
services_add scope file first =
    each_adds (one_service scope file first) (add_service scope file first) service_names
    (service_adds scope file first) 0

mutual
  past_tree_names : (o : Offsets) (m : Message) → past_tree o m ≡ past_message_names o (names_in m)
  past_tree_names o (message own nested) =
      let q = past_nested (past_message o) (names_in_each nested) in
      ap (λ p. past_extensions (past_enums p (length own.enum_type)) (length own.extension))
      (past_trees_names (past_message o) nested)
      ∙ ap (λ n. past_extensions (past_enums q n) (length own.extension))
      (sym (length-map own.enum_type enum_names))
      ∙ ap (λ n. past_extensions (past_enums q (length (map enum_names own.enum_type))) n)
      (sym (length-map own.extension field_name))

  past_trees_names : (o : Offsets) (ms : Messages) → past_trees o ms
      ≡ past_nested o (names_in_each ms)
  past_trees_names o no_messages = refl
  past_trees_names o (more_messages m ms) =
      past_trees_names (past_tree o m) ms
      ∙ ap (λ p. past_nested p (names_in_each ms)) (past_tree_names o m)

mutual
  tree_adds : (path : List ℤ) (scope : List ℕ) (file : ℕ) (parent : Option ℕ) (o : Offsets)
      (m : Message) → map addition (tree_declarations path scope file parent o m)
      ≡ add_message scope file o (names_in m)
  tree_adds path scope file parent o (message own nested) =
      let inner = join scope (text_of own.name) in
      let q = past_trees (past_message o) nested in
      let head = add scope file (kind.Message o.messages) (text_view own.name) in
      let tail : List ℕ → Offsets → List Addition = λ s p.
      each (add_field s file) 0 (map field_name own.field)
      ++ (add_nested s file (past_message o) (names_in_each nested)
      ++ (each (add_enum s file p.enums) 0 (map enum_names own.enum_type)
      ++ (each (add_extension s file p.extensions) 0 (map field_name own.extension)
      ++ each (add_oneof s file) 0 (map oneof_name own.oneof_decl)))) in
      let xs = each (one_field path inner file o.messages) 0 own.field in
      let ys = trees_declarations path (pos 3) inner file (Some o.messages) 0 (past_message o)
      nested in
      let es = each (one_enum path (pos 4) inner file (Some o.messages) q.enums) 0 own.enum_type in
      let ks = each (one_extension path (pos 6) inner file (Some o.messages) q.extensions) 0
      own.extension in
      let os = each (one_oneof path inner file o.messages) 0 own.oneof_decl in
      ap (λ a. a ∷ map addition (xs ++ (ys ++ (es ++ (ks ++ os)))))
      (adds scope file (kind.Message o.messages) own.name)
      ∙ ap (λ l. head ∷ l)
      (both xs (ys ++ (es ++ (ks ++ os))) _ _
      (fields_add path (pos 2) inner file o.messages own.field)
      (both ys (es ++ (ks ++ os)) _ _
      (trees_add path (pos 3) inner file (Some o.messages) 0 (past_message o) nested)
      (both es (ks ++ os) _ _
      (enums_add path (pos 4) inner file (Some o.messages) q.enums own.enum_type)
      (both ks os _ _
      (extensions_add path (pos 6) inner file (Some o.messages) q.extensions own.extension)
      (oneofs_add path (pos 8) inner file o.messages own.oneof_decl)))))
      ∙ ap (λ t. head ∷ tail (join scope t) q) (texts own.name)
      ∙ ap (λ p. head ∷ tail (join scope (text (text_view own.name))) p)
      (past_trees_names (past_message o) nested)

  trees_add : (path : List ℤ) (tag : ℤ) (scope : List ℕ) (file : ℕ) (parent : Option ℕ) (k : ℕ)
      (o : Offsets) (ms : Messages)
      → map addition (trees_declarations path tag scope file parent k o ms)
      ≡ add_nested scope file o (names_in_each ms)
  trees_add path tag scope file parent k o no_messages = refl
  trees_add path tag scope file parent k o (more_messages m ms) =
      both (tree_declarations (entry path tag k) scope file parent o m)
      (trees_declarations path tag scope file parent (k + 1) (past_tree o m) ms) _ _
      (tree_adds (entry path tag k) scope file parent o m)
      (trees_add path tag scope file parent (k + 1) (past_tree o m) ms)
      ∙ ap (λ p. add_message scope file o (names_in m)
      ++ add_nested scope file p (names_in_each ms)) (past_tree_names o m)

past_file_told : (o : Offsets) (f : FileDescriptorProto) → past_file o f
    ≡ past_file_names o (names_of_file f)
past_file_told o f =
    let enums = f.enum_type.items in
    let services = f.service.items in
    let extensions = f.extension.items in
    let q = past_nested o (names_in_each (trees_of f)) in
    ap (λ p. past_extensions (past_services (past_enums p (length enums)) (length services))
    (length extensions)) (past_trees_names o (trees_of f))
    ∙ ap (λ n. past_extensions (past_services (past_enums q n) (length services))
    (length extensions)) (sym (length-map enums enum_names))
    ∙ ap (λ n. past_extensions (past_services (past_enums q (length (map enum_names enums))) n)
    (length extensions)) (sym (length-map services service_names))
    ∙ ap (λ n. past_extensions
    (past_services (past_enums q (length (map enum_names enums)))
    (length (map service_names services))) n) (sym (length-map extensions field_name))

file_adds : (o : Offsets) (i : ℕ) (f : FileDescriptorProto) → map addition (file_declarations o i f)
    ≡ add_file o i (names_of_file f)
file_adds o i f =
    let scope = text_of f.package in
    let q = past_trees o (trees_of f) in
    let all : List ℕ → Offsets → List Addition = λ s p.
    a_package s i
    ∷ (add_nested s i o (names_in_each (trees_of f))
    ++ (each (add_enum s i p.enums) 0 (map enum_names f.enum_type.items)
    ++ (each (add_service s i o.services) 0 (map service_names f.service.items)
    ++ each (add_extension s i p.extensions) 0 (map field_name f.extension.items)))) in
    let ys = trees_declarations [] (pos 4) scope i None 0 o (trees_of f) in
    let es = each (one_enum [] (pos 5) scope i None q.enums) 0 f.enum_type.items in
    let ss = each (one_service scope i o.services) 0 f.service.items in
    let ks = each (one_extension [] (pos 7) scope i None q.extensions) 0 f.extension.items in
    ap (λ l. a_package scope i ∷ l)
    (both ys (es ++ (ss ++ ks)) _ _ (trees_add [] (pos 4) scope i None 0 o (trees_of f))
    (both es (ss ++ ks) _ _ (enums_add [] (pos 5) scope i None q.enums f.enum_type.items)
    (both ss ks _ _ (services_add scope i o.services f.service.items)
    (extensions_add [] (pos 7) scope i None q.extensions f.extension.items))))
    ∙ ap (λ s. all s q) (texts f.package)
    ∙ ap (λ p. all (text (text_view f.package)) p) (past_trees_names o (trees_of f))

files_add : (o : Offsets) (i : ℕ) (fs : List FileDescriptorProto)
    → map addition (batch_declarations o i fs) ≡ add_files o i (map names_of_file fs)
files_add o i [] = refl
files_add o i (f ∷ fs) =
    both (file_declarations o i f) (batch_declarations (past_file o f) (i + 1) fs) _ _
    (file_adds o i f) (files_add (past_file o f) (i + 1) fs)
    ∙ ap (λ p. add_file o i (names_of_file f) ++ add_files p (i + 1) (map names_of_file fs))
    (past_file_told o f)

past_files_told : (o : Offsets) (fs : List FileDescriptorProto) → past_files o fs
    ≡ past_files_names o (map names_of_file fs)
past_files_told o [] = refl
past_files_told o (f ∷ fs) =
    past_files_told (past_file o f) fs
    ∙ ap (λ p. past_files_names p (map names_of_file fs)) (past_file_told o f)

-- files that give the same names make the same known
pub known_told : (known : Known) (o : Offsets) (i : ℕ) (fs gs : List FileDescriptorProto)
    → map names_of_file fs ≡ map names_of_file gs
    → known_behind known (batch_declarations o i fs)
    ≡ known_behind known (batch_declarations o i gs)
known_told known o i fs gs same =
    let of : (hs : List FileDescriptorProto) → known_behind known (batch_declarations o i hs)
    ≡ behind known (add_files o i (map names_of_file hs)) =
    λ hs. behind_additions known (batch_declarations o i hs)
    ∙ ap (behind known) (files_add o i hs) in
    of fs ∙ ap (λ ns. behind known (add_files o i ns)) same ∙ sym (of gs)

-- declare the same names of each sort
pub names_told : (s : Sort) (names : List FullName) (o : Offsets) (i : ℕ)
    (fs gs : List FileDescriptorProto) → map names_of_file fs ≡ map names_of_file gs
    → with_names s names (batch_declarations o i fs)
    ≡ with_names s names (batch_declarations o i gs)
names_told s names o i fs gs same =
    let of : (hs : List FileDescriptorProto) → with_names s names (batch_declarations o i hs)
    ≡ names_behind s names (add_files o i (map names_of_file hs)) =
    λ hs. names_additions s names (batch_declarations o i hs)
    ∙ ap (names_behind s names) (files_add o i hs) in
    of fs ∙ ap (λ ns. names_behind s names (add_files o i ns)) same ∙ sym (of gs)

-- and declare as much
pub past_told : (o : Offsets) (fs gs : List FileDescriptorProto) → map names_of_file fs
    ≡ map names_of_file gs → past_files o fs ≡ past_files o gs
past_told o fs gs same =
    past_files_told o fs ∙ ap (past_files_names o) same ∙ sym (past_files_told o gs)
