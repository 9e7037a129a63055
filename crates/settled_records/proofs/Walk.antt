-- The entities of a file are those that its content tells of.
use Rattle.std.proofs.Common.{◌≡◌, ◌∙◌, ◌+◌, ◌++◌, ℕ, ℤ, pos, List, [], ◌∷◌, map, Option, Some, None, String, Global, ap, refl, sym}
use Rattle.std.proofs.lemmas.List.{map-append}
use Rattle.std.specs.List.{AllZip, flat_map}
use Rattle.std.specs.Option.{option_map}
use Rattle.protobuf_model.proofs.Pieces.{flat_map-append}
use Rattle.descriptor_records.specs.Content.{enum_value_view, enum_view, extension_range_view, field_view, file_view, message_view, method_view, oneof_view, options_view, service_view, text_view, unlocated}
use Rattle.descriptor_records.specs.Content as content
use Rattle.descriptor_records.specs.declared.enums.EnumDescriptorProto.{EnumDescriptorProto}
use Rattle.descriptor_records.specs.declared.enums.EnumValueDescriptorProto.{EnumValueDescriptorProto}
use Rattle.descriptor_records.specs.declared.field.FieldDescriptorProto.{FieldDescriptorProto}
use Rattle.descriptor_records.specs.declared.field.OneofDescriptorProto.{OneofDescriptorProto}
use Rattle.descriptor_records.specs.declared.file.FileDescriptorProto.{FileDescriptorProto}
use Rattle.descriptor_records.specs.declared.message.ExtensionRange.{ExtensionRange}
use Rattle.descriptor_records.specs.declared.service.MethodDescriptorProto.{MethodDescriptorProto}
use Rattle.descriptor_records.specs.declared.service.ServiceDescriptorProto.{ServiceDescriptorProto}
use Rattle.option_parts.specs.declared.option_scope.OptionScope.TheVariants as scopes
use Rattle.reflect_declarations.specs.Declarations.{Declaration, each, entry, one_enum, one_extension, one_field, one_method, one_oneof, one_service, one_value, past_message, past_tree, past_trees, tree_declarations, trees_declarations, trees_of}
use Rattle.reflect_declarations.specs.Tree.{Message, message, Messages, no_messages, more_messages, text_of}
use Rattle.reflect_declarations.specs.declared.offsets.Offsets.{Offsets}
use Rattle.reflect_options.specs.Entities.{entities, file_entities, no_offsets, range_at}
use Rattle.reflect_scope.specs.Means.{join}
use Rattle.linked_view.proofs.Walked.{tree_content, trees_content}
use Rattle.settled_records.proofs.Entities.{types_are}
use Rattle.settled_records.proofs.Told.{Told, all_told_same, enum_tells, extension_tells, field_tells, file_tells, message_tells, messages_tell, method_tells, named_service_tells, oneof_tells, package_tells, parts_tell, range_tells, service_tells, tells, text_in, told, value_tells}
use Rattle.settled_records.specs.Alike.{IsSameEntity}

-- what is told of the entities of declarations
abbrev tell : List Declaration → List Told
tell ds = map told (flat_map entities ds)

both : (a b : List Declaration) (x y : List Told) → tell a ≡ x → tell b ≡ y → tell (a ++ b) ≡ x ++ y
both a b x y e g = ap (map told) (flat_map-append entities a b) ∙ map-append told (flat_map entities a) (flat_map entities b) ∙ (λ i. e i ++ g i)

each_told : {A B : Type 0} (one : ℕ → A → List Declaration) (view : A → B) (h : ℕ → B → List Told) → ((k : ℕ) (x : A) → tell (one k x) ≡ h k (view x))
    → (k : ℕ) (xs : List A) → tell (each one k xs) ≡ each h k (map view xs)
each_told one view h e k [] = refl
each_told one view h e k (x ∷ xs) = both (one k x) (each one (k + 1) xs) (h k (view x)) (each h (k + 1) (map view xs)) (e k x) (each_told one view h e (k + 1) xs)

text_told : (o : Option (String Global)) → text_of o ≡ text_in (text_view o)
text_told None = refl
text_told (Some s) = refl

name_told : (scope : List ℕ) (o : Option (String Global)) → join scope (text_of o) ≡ join scope (text_in (text_view o))
name_told scope o = ap (join scope) (text_told o)

-- ---- parts of messages, enums and services
field_told : (path : List ℤ) (scope : List ℕ) (file parent k : ℕ) (f : FieldDescriptorProto) → tell (one_field path scope file parent k f) ≡ field_tells path scope k (field_view f)
field_told path scope file parent k f = ap (λ n. tells scopes.Field (entry path (pos 2) k) (pos 8) n (option_map options_view f.options) ∷ []) (name_told scope f.name)

oneof_told : (path : List ℤ) (scope : List ℕ) (file parent k : ℕ) (o : OneofDescriptorProto) → tell (one_oneof path scope file parent k o) ≡ oneof_tells path scope k (oneof_view o)
oneof_told path scope file parent k o = ap (λ n. tells scopes.Oneof (entry path (pos 8) k) (pos 2) n (option_map options_view o.options) ∷ []) (name_told scope o.name)

value_told : (path : List ℤ) (scope : List ℕ) (file parent k : ℕ) (v : EnumValueDescriptorProto) → tell (one_value path scope file parent k v) ≡ value_tells path scope k (enum_value_view v)
value_told path scope file parent k v = ap (λ n. tells scopes.EnumValue (entry path (pos 2) k) (pos 3) n (option_map options_view v.options) ∷ []) (name_told scope v.name)

enum_told : (path : List ℤ) (tag : ℤ) (scope : List ℕ) (file : ℕ) (parent : Option ℕ) (first k : ℕ) (e : EnumDescriptorProto)
    → tell (one_enum path tag scope file parent first k e) ≡ enum_tells path tag scope k (enum_view e)
enum_told path tag scope file parent first k e =
    let at = entry path tag k in
    let values = each_told (one_value at scope file (first + k)) enum_value_view (value_tells at scope) (value_told at scope file (first + k)) 0 e.value.items in
    ap (λ ts. tells scopes.Enum at (pos 3) (join scope (text_of e.name)) (option_map options_view e.options) ∷ ts) values
    ∙ ap (λ n. tells scopes.Enum at (pos 3) n (option_map options_view e.options) ∷ each (value_tells at scope) 0 (map enum_value_view e.value.items)) (name_told scope e.name)

method_told : (path : List ℤ) (scope : List ℕ) (file parent k : ℕ) (m : MethodDescriptorProto) → tell (one_method path scope file parent k m) ≡ method_tells path scope k (method_view m)
method_told path scope file parent k m = ap (λ n. tells scopes.Method (entry path (pos 2) k) (pos 4) n (option_map options_view m.options) ∷ []) (name_told scope m.name)

service_told : (scope : List ℕ) (file first k : ℕ) (s : ServiceDescriptorProto) → tell (one_service scope file first k s) ≡ service_tells scope k (service_view s)
service_told scope file first k s =
    let at = entry [] (pos 6) k in
    let name = join scope (text_of s.name) in
    let methods = each_told (one_method at name file (first + k)) method_view (method_tells at name) (method_told at name file (first + k)) 0 s.method.items in
    ap (λ ts. tells scopes.Service at (pos 3) name (option_map options_view s.options) ∷ ts) methods
    ∙ ap (λ n. named_service_tells n k (service_view s)) (name_told scope s.name)

extension_told : (path : List ℤ) (tag : ℤ) (scope : List ℕ) (file : ℕ) (parent : Option ℕ) (first k : ℕ) (x : FieldDescriptorProto)
    → tell (one_extension path tag scope file parent first k x) ≡ extension_tells path tag scope k (field_view x)
extension_told path tag scope file parent first k x = ap (λ n. tells scopes.Field (entry path tag k) (pos 8) n (option_map options_view x.options) ∷ []) (name_told scope x.name)

ranges_told : (file : ℕ) (path : List ℤ) (name : List ℕ) (k : ℕ) (rs : List ExtensionRange)
    → map told (each (range_at file path name) k rs) ≡ each (range_tells path name) k (map extension_range_view rs)
ranges_told file path name k [] = refl
ranges_told file path name k (r ∷ rs) =
    ap (λ ts. tells scopes.ExtensionRange (entry path (pos 5) k) (pos 3) name (option_map options_view r.options) ∷ ts) (ranges_told file path name (k + 1) rs)

-- ---- messages
mutual
  tree_told : (path : List ℤ) (scope : List ℕ) (file : ℕ) (parent : Option ℕ) (o : Offsets) (m : Message)
      → tell (tree_declarations path scope file parent o m) ≡ message_tells path scope (tree_content m)
  tree_told path scope file parent o (message own nested) =
      let n = join scope (text_of own.name) in
      let up = Some o.messages in
      let behind = past_trees (past_message o) nested in
      let ranges = ranges_told file path n 0 own.extension_range in
      let fields = each_told (one_field path n file o.messages) field_view (field_tells path n) (field_told path n file o.messages) 0 own.field in
      let inner = trees_told path (pos 3) n file up 0 (past_message o) nested in
      let enums = each_told (one_enum path (pos 4) n file up behind.enums) enum_view (enum_tells path (pos 4) n) (enum_told path (pos 4) n file up behind.enums) 0 own.enum_type in
      let others = each_told (one_extension path (pos 6) n file up behind.extensions) field_view (extension_tells path (pos 6) n)
      (extension_told path (pos 6) n file up behind.extensions) 0 own.extension in
      let oneofs = each_told (one_oneof path n file o.messages) oneof_view (oneof_tells path n) (oneof_told path n file o.messages) 0 own.oneof_decl in
      let rest = both _ _ _ _ fields (both _ _ _ _ inner (both _ _ _ _ enums (both _ _ _ _ others oneofs))) in
      ap (λ ts. tells scopes.Message path (pos 7) n (option_map options_view own.options) ∷ ts) (map-append told (each (range_at file path n) 0 own.extension_range) _ ∙ (λ i. ranges i ++ rest i))
      ∙ ap (λ s. parts_tell path s (option_map options_view own.options) (map extension_range_view own.extension_range) (map field_view own.field)
      (messages_tell path (pos 3) s 0 (trees_content nested)) (map enum_view own.enum_type) (map field_view own.extension) (map oneof_view own.oneof_decl)) (name_told scope own.name)

  trees_told : (path : List ℤ) (tag : ℤ) (scope : List ℕ) (file : ℕ) (parent : Option ℕ) (k : ℕ) (o : Offsets) (ms : Messages)
      → tell (trees_declarations path tag scope file parent k o ms) ≡ messages_tell path tag scope k (trees_content ms)
  trees_told path tag scope file parent k o no_messages = refl
  trees_told path tag scope file parent k o (more_messages m ms) =
      both _ _ _ _ (tree_told (entry path tag k) scope file parent o m) (trees_told path tag scope file parent (k + 1) (past_tree o m) ms)

-- ---- files
-- all of a file
pub file_told : (i : ℕ) (f : FileDescriptorProto) → map told (file_entities i f) ≡ file_tells (file_view f)
file_told i f =
    let n = text_of f.package in
    let behind = past_trees no_offsets (trees_of f) in
    let types : tell (trees_declarations [] (pos 4) n i None 0 no_offsets (trees_of f)) ≡ messages_tell [] (pos 4) n 0 (content.messages_of (map message_view f.message_type.items)) =
    trees_told [] (pos 4) n i None 0 no_offsets (trees_of f) ∙ ap (messages_tell [] (pos 4) n 0) (sym (types_are f.message_type.items)) in
    let enums = each_told (one_enum [] (pos 5) n i None behind.enums) enum_view (enum_tells [] (pos 5) n) (enum_told [] (pos 5) n i None behind.enums) 0 f.enum_type.items in
    let services = each_told (one_service n i no_offsets.services) service_view (service_tells n) (service_told n i no_offsets.services) 0 f.service.items in
    let others = each_told (one_extension [] (pos 7) n i None behind.extensions) field_view (extension_tells [] (pos 7) n)
    (extension_told [] (pos 7) n i None behind.extensions) 0 f.extension.items in
    ap (λ ts. tells scopes.File [] (pos 8) n (option_map options_view f.options) ∷ ts) (both _ _ _ _ types (both _ _ _ _ enums (both _ _ _ _ services others)))
    ∙ ap (λ s. package_tells s (file_view f)) (text_told f.package)

-- records of one content, but for lines, columns and comments, have the same
pub same_entities : (i j : ℕ) (f g : FileDescriptorProto) → unlocated (file_view f) ≡ unlocated (file_view g) → AllZip IsSameEntity (file_entities i f) (file_entities j g)
same_entities i j f g same = all_told_same (file_entities i f) (file_entities j g) (file_told i f ∙ ap file_tells same ∙ sym (file_told j g))
