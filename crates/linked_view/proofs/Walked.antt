-- What the walk over a file's declarations meets is what the file declares.
use Rattle.std.proofs.Common.{◌≡◌, ◌∙◌, ℕ, ◌+◌, ℤ, pos, List, [], ◌∷◌, ◌++◌, Option, Some, None, String, Global, map, length, string_bytes, option_map, ap, sym, subst, refl}
use Rattle.std.specs.List.{flat_map}
use Rattle.std.proofs.lemmas.List.{map-append}
use Rattle.std.proofs.lemmas.List.Concat.{flat_map-cons}
use Rattle.descriptor_records.specs.Content.{MessageContent, MessageContents, text_view, field_view, oneof_view, enum_value_view, enum_view, method_view, service_view, extension_range_view, options_view, message_view, file_view}
use Rattle.descriptor_records.specs.Content as content
use Rattle.descriptor_records.specs.declared.enums.EnumDescriptorProto.{EnumDescriptorProto}
use Rattle.descriptor_records.specs.declared.enums.EnumValueDescriptorProto.{EnumValueDescriptorProto}
use Rattle.descriptor_records.specs.declared.field.FieldDescriptorProto.{FieldDescriptorProto}
use Rattle.descriptor_records.specs.declared.field.OneofDescriptorProto.{OneofDescriptorProto}
use Rattle.descriptor_records.specs.declared.file.FileDescriptorProto.{FileDescriptorProto}
use Rattle.descriptor_records.specs.declared.message.DescriptorProto.{DescriptorProto}
use Rattle.descriptor_records.specs.declared.message.DescriptorProto.TheOpen.{DescriptorProto-F}
use Rattle.descriptor_records.specs.declared.message.DescriptorProto.TheFolds.{ind-DescriptorProto, fold-roll-DescriptorProto}
use Rattle.descriptor_records.specs.declared.service.MethodDescriptorProto.{MethodDescriptorProto}
use Rattle.descriptor_records.specs.declared.service.ServiceDescriptorProto.{ServiceDescriptorProto}
use Rattle.descriptor_records.proofs.Messages.{level_view, message_view-roll}
use Rattle.reflect_scope.specs.Means.{join}
use Rattle.reflect_declarations.specs.declared.offsets.Offsets.{Offsets}
use Rattle.reflect_declarations.specs.Tree.{text_of, MessageParts, Message, message, Messages, no_messages, more_messages, messages_of, message_step, parts, tree_of}
use Rattle.reflect_declarations.specs.Declarations.{Declaration, Body, of_file, of_message, of_field, of_oneof, of_enum, of_enum_value, of_service, of_method, of_extension, each, entry, one_field, one_oneof, one_value, one_enum, one_method, one_service, one_extension, past_message, past_tree, past_trees, trees_of, tree_declarations, trees_declarations}
use Rattle.schema_view.specs.Files as files
use Rattle.schema_view.specs.Declarations as view

-- a message's parts as its file's content has them
abbrev pub facts_in : MessageParts → view.MessageFacts
facts_in m = record {
  name = text_view m.name;
  fields = map view.facts_of (map field_view m.field);
  oneofs = length (map oneof_view m.oneof_decl);
  extensions = map extension_range_view m.extension_range;
  reserved = m.reserved_range;
  reserved_names = map string_bytes m.reserved_name;
  options = option_map options_view m.options;
}

-- what is declared, as the file's content has it; a file is no declaration there
abbrev pub seen_body : Body → Option view.Body
seen_body (of_file f) = None
seen_body (of_message m) = Some (view.of_message (facts_in m))
seen_body (of_field f) = Some (view.of_field (field_view f))
seen_body (of_oneof o) = Some (view.of_oneof (oneof_view o))
seen_body (of_enum e) = Some (view.of_enum (enum_view e))
seen_body (of_enum_value v) = Some (view.of_value (enum_value_view v))
seen_body (of_service s) = Some (view.of_service (view.service_facts (service_view s)))
seen_body (of_method m) = Some (view.of_method (method_view m))
seen_body (of_extension x) = Some (view.of_extension (field_view x))

-- a full name, and what has it, if it is a declaration
abbrev pub Seen : Type 0
Seen = List ℕ × Option view.Body

abbrev pub seen : Declaration → Seen
seen d = (d.name, seen_body d.body)

abbrev pub told : view.Declaration → Seen
told d = (d.name, Some d.body)

pub text_seen : (o : Option (String Global)) → files.text_of (text_view o) ≡ text_of o
text_seen None = refl
text_seen (Some s) = refl

pub join_seen : (scope name : List ℕ) → files.join scope name ≡ join scope name
join_seen [] name = refl
join_seen (b ∷ scope) name = refl

pub name_seen : (scope : List ℕ) (o : Option (String Global))
    → files.join scope (files.text_of (text_view o)) ≡ join scope (text_of o)
name_seen scope o = join_seen scope (files.text_of (text_view o)) ∙ ap (join scope) (text_seen o)

both : (a b : List Declaration) (c d : List view.Declaration) → map seen a ≡ map told c
    → map seen b ≡ map told d → map seen (a ++ b) ≡ map told (c ++ d)
both a b c d e f =
    map-append seen a b ∙ ap (λ xs. xs ++ map seen b) e ∙ ap (λ xs. map told c ++ xs) f
    ∙ sym (map-append told c d)

each_one : {A B : Type 0} (one : ℕ → A → List Declaration) (v : A → B) (h : B → view.Declaration)
    → ((k : ℕ) (x : A) → map seen (one k x) ≡ told (h (v x)) ∷ []) → (k : ℕ) (xs : List A)
    → map seen (each one k xs) ≡ map told (map h (map v xs))
each_one one v h e k [] = refl
each_one one v h e k (x ∷ xs) =
    both (one k x) (each one (k + 1) xs) (h (v x) ∷ []) (map h (map v xs)) (e k x)
    (each_one one v h e (k + 1) xs)

each_list : {A B : Type 0} (one : ℕ → A → List Declaration) (v : A → B)
    (h : B → List view.Declaration)
    → ((k : ℕ) (x : A) → map seen (one k x) ≡ map told (h (v x))) → (k : ℕ) (xs : List A)
    → map seen (each one k xs) ≡ map told (flat_map h (map v xs))
each_list one v h e k [] = refl
each_list one v h e k (x ∷ xs) =
    both (one k x) (each one (k + 1) xs) (h (v x)) (flat_map h (map v xs)) (e k x)
    (each_list one v h e (k + 1) xs)
    ∙ ap (map told) (sym (flat_map-cons h (v x) (map v xs)))

-- the same full name
abbrev at_name : view.Body → List ℕ → List Seen
at_name body n = (n, Some body) ∷ []

fields_seen : (path : List ℤ) (scope : List ℕ) (file parent : ℕ) (k : ℕ)
    (fs : List FieldDescriptorProto) → map seen (each (one_field path scope file parent) k fs)
    ≡ map told (map (view.one_field scope) (map field_view fs))
fields_seen path scope file parent =
    each_one (one_field path scope file parent) field_view (view.one_field scope)
    (λ k f. ap (at_name (view.of_field (field_view f))) (sym (name_seen scope f.name)))

oneofs_seen : (path : List ℤ) (scope : List ℕ) (file parent : ℕ) (k : ℕ)
    (os : List OneofDescriptorProto) → map seen (each (one_oneof path scope file parent) k os)
    ≡ map told (map (view.one_oneof scope) (map oneof_view os))
oneofs_seen path scope file parent =
    each_one (one_oneof path scope file parent) oneof_view (view.one_oneof scope)
    (λ k o. ap (at_name (view.of_oneof (oneof_view o))) (sym (name_seen scope o.name)))

extensions_seen : (path : List ℤ) (tag : ℤ) (scope : List ℕ) (file : ℕ) (parent : Option ℕ)
    (first k : ℕ) (xs : List FieldDescriptorProto)
    → map seen (each (one_extension path tag scope file parent first) k xs)
    ≡ map told (map (view.one_extension scope) (map field_view xs))
extensions_seen path tag scope file parent first =
    each_one (one_extension path tag scope file parent first) field_view (view.one_extension scope)
    (λ k x. ap (at_name (view.of_extension (field_view x))) (sym (name_seen scope x.name)))

values_seen : (path : List ℤ) (scope : List ℕ) (file parent : ℕ) (k : ℕ)
    (vs : List EnumValueDescriptorProto) → map seen (each (one_value path scope file parent) k vs)
    ≡ map told (map (view.one_value scope) (map enum_value_view vs))
values_seen path scope file parent =
    each_one (one_value path scope file parent) enum_value_view (view.one_value scope)
    (λ k v. ap (at_name (view.of_value (enum_value_view v))) (sym (name_seen scope v.name)))

enum_seen : (path : List ℤ) (tag : ℤ) (scope : List ℕ) (file : ℕ) (parent : Option ℕ) (first k : ℕ)
    (e : EnumDescriptorProto) → map seen (one_enum path tag scope file parent first k e)
    ≡ map told (view.one_enum scope (enum_view e))
enum_seen path tag scope file parent first k e =
    let vs = each (one_value (entry path tag k) scope file (first + k)) 0 e.value.items in
    let body = view.of_enum (enum_view e) in
    ap (λ n. (n, Some body) ∷ map seen vs) (sym (name_seen scope e.name))
    ∙ ap (λ ds. (files.join scope (files.text_of (text_view e.name)), Some body) ∷ ds)
    (values_seen (entry path tag k) scope file (first + k) 0 e.value.items)

enums_seen : (path : List ℤ) (tag : ℤ) (scope : List ℕ) (file : ℕ) (parent : Option ℕ)
    (first k : ℕ) (es : List EnumDescriptorProto)
    → map seen (each (one_enum path tag scope file parent first) k es)
    ≡ map told (flat_map (view.one_enum scope) (map enum_view es))
enums_seen path tag scope file parent first =
    each_list (one_enum path tag scope file parent first) enum_view (view.one_enum scope)
    (enum_seen path tag scope file parent first)

methods_seen : (path : List ℤ) (scope : List ℕ) (file parent : ℕ) (k : ℕ)
    (ms : List MethodDescriptorProto) → map seen (each (one_method path scope file parent) k ms)
    ≡ map told (map (view.one_method scope) (map method_view ms))
methods_seen path scope file parent =
    each_one (one_method path scope file parent) method_view (view.one_method scope)
    (λ k m. ap (at_name (view.of_method (method_view m))) (sym (name_seen scope m.name)))

service_seen : (scope : List ℕ) (file first k : ℕ) (s : ServiceDescriptorProto)
    → map seen (one_service scope file first k s) ≡ map told (view.one_service scope (service_view s))
service_seen scope file first k s =
    let path = entry [] (pos 6) k in
    let body = view.of_service (view.service_facts (service_view s)) in
    let ms = map method_view s.method.items in
    ap (λ ds. (join scope (text_of s.name), Some body) ∷ ds)
    (methods_seen path (join scope (text_of s.name)) file (first + k) 0 s.method.items)
    ∙ ap (λ n. (n, Some body) ∷ map told (map (view.one_method n) ms))
    (sym (name_seen scope s.name))

services_seen : (scope : List ℕ) (file first k : ℕ) (ss : List ServiceDescriptorProto)
    → map seen (each (one_service scope file first) k ss)
    ≡ map told (flat_map (view.one_service scope) (map service_view ss))
services_seen scope file first =
    each_list (one_service scope file first) service_view (view.one_service scope)
    (service_seen scope file first)

-- a message's tree as content
abbrev mutual
  pub tree_content : Message → MessageContent
  tree_content (message own nested) = content.message (text_view own.name)
      (map field_view own.field) (map field_view own.extension) (trees_content nested)
      (map enum_view own.enum_type) (map extension_range_view own.extension_range)
      (map oneof_view own.oneof_decl) (option_map options_view own.options) own.reserved_range
      (map string_bytes own.reserved_name)

  pub trees_content : Messages → MessageContents
  trees_content no_messages = content.no_messages
  trees_content (more_messages m ms) = content.more_messages (tree_content m) (trees_content ms)

-- what stands in a message of this full name
abbrev inside : MessageParts → MessageContents → List ℕ → List view.Declaration
inside own nested n =
    map (view.one_field n) (map field_view own.field)
    ++ (view.in_messages n nested
    ++ (flat_map (view.one_enum n) (map enum_view own.enum_type)
    ++ (map (view.one_extension n) (map field_view own.extension)
    ++ map (view.one_oneof n) (map oneof_view own.oneof_decl))))

mutual
  tree_seen : (path : List ℤ) (scope : List ℕ) (file : ℕ) (parent : Option ℕ) (o : Offsets)
      (m : Message) → map seen (tree_declarations path scope file parent o m)
      ≡ map told (view.in_message scope (tree_content m))
  tree_seen path scope file parent o (message own nested) =
      let n = join scope (text_of own.name) in
      let up = Some o.messages in
      let behind = past_trees (past_message o) nested in
      let fields = fields_seen path n file o.messages 0 own.field in
      let inner = trees_seen path (pos 3) n file up 0 (past_message o) nested in
      let enums = enums_seen path (pos 4) n file up behind.enums 0 own.enum_type in
      let others = extensions_seen path (pos 6) n file up behind.extensions 0 own.extension in
      let oneofs = oneofs_seen path n file o.messages 0 own.oneof_decl in
      ap (λ ds. (n, Some (view.of_message (facts_in own))) ∷ ds)
      (both _ _ _ _ fields (both _ _ _ _ inner (both _ _ _ _ enums (both _ _ _ _ others oneofs))))
      ∙ ap (λ s. (s, Some (view.of_message (facts_in own)))
      ∷ map told (inside own (trees_content nested) s)) (sym (name_seen scope own.name))

  trees_seen : (path : List ℤ) (tag : ℤ) (scope : List ℕ) (file : ℕ) (parent : Option ℕ) (k : ℕ)
      (o : Offsets) (ms : Messages)
      → map seen (trees_declarations path tag scope file parent k o ms)
      ≡ map told (view.in_messages scope (trees_content ms))
  trees_seen path tag scope file parent k o no_messages = refl
  trees_seen path tag scope file parent k o (more_messages m ms) =
      both _ _ _ _ (tree_seen (entry path tag k) scope file parent o m)
      (trees_seen path tag scope file parent (k + 1) (past_tree o m) ms)

abbrev IsTree : DescriptorProto → Type 0
IsTree m = message_view m ≡ tree_content (tree_of m)

nested_content : (ms : List ((m : DescriptorProto) × IsTree m))
    → content.messages_of (map message_view (map (λ e. e.0) ms))
    ≡ trees_content (messages_of (map tree_of (map (λ e. e.0) ms)))
nested_content [] = refl
nested_content (m ∷ ms) = λ i. content.more_messages (m.1 i) (nested_content ms i)

level_content : (x : DescriptorProto-F DescriptorProto)
    → content.messages_of (map message_view x.nested_type.items)
    ≡ trees_content (messages_of (map tree_of x.nested_type.items))
    → level_view x
    ≡ tree_content (message (parts x) (messages_of (map tree_of x.nested_type.items)))
level_content x nested =
    ap (λ ns. content.message (text_view x.name) (map field_view x.field.items)
    (map field_view x.extension.items) ns (map enum_view x.enum_type.items)
    (map extension_range_view x.extension_range.items) (map oneof_view x.oneof_decl.items)
    (option_map options_view x.options) x.reserved_range.items
    (map string_bytes x.reserved_name.items)) nested

pub content_is : (m : DescriptorProto) → message_view m ≡ tree_content (tree_of m)
content_is = ind-DescriptorProto IsTree (λ x y is.
    let nested = subst (λ z. content.messages_of (map message_view z.nested_type.items)
    ≡ trees_content (messages_of (map tree_of z.nested_type.items))) is
    (nested_content y.nested_type.items) in
    message_view-roll x ∙ level_content x nested
    ∙ sym (ap tree_content (fold-roll-DescriptorProto Message message_step x)))

messages_seen : (path : List ℤ) (tag : ℤ) (scope : List ℕ) (file : ℕ) (parent : Option ℕ) (k : ℕ)
    (o : Offsets) (ms : List DescriptorProto)
    → map seen (trees_declarations path tag scope file parent k o (messages_of (map tree_of ms)))
    ≡ map told (flat_map (view.in_message scope) (map message_view ms))
messages_seen path tag scope file parent k o [] = refl
messages_seen path tag scope file parent k o (m ∷ ms) =
    both _ _ _ _ (tree_seen (entry path tag k) scope file parent o (tree_of m)
    ∙ ap (λ c. map told (view.in_message scope c)) (sym (content_is m)))
    (messages_seen path tag scope file parent (k + 1) (past_tree o (tree_of m)) ms)
    ∙ ap (map told)
    (sym (flat_map-cons (view.in_message scope) (message_view m) (map message_view ms)))

-- the declarations of a file behind the file itself
abbrev pub inner_declarations : Offsets → ℕ → FileDescriptorProto → List Declaration
inner_declarations o file f =
    trees_declarations [] (pos 4) (text_of f.package) file None 0 o (trees_of f)
    ++ (each (one_enum [] (pos 5) (text_of f.package) file None (past_trees o (trees_of f)).enums) 0
    f.enum_type.items
    ++ (each (one_service (text_of f.package) file o.services) 0 f.service.items
    ++ each (one_extension [] (pos 7) (text_of f.package) file None
    (past_trees o (trees_of f)).extensions) 0 f.extension.items))

abbrev outside : FileDescriptorProto → List ℕ → List view.Declaration
outside f n =
    flat_map (view.in_message n) (map message_view f.message_type.items)
    ++ (flat_map (view.one_enum n) (map enum_view f.enum_type.items)
    ++ (flat_map (view.one_service n) (map service_view f.service.items)
    ++ map (view.one_extension n) (map field_view f.extension.items)))

-- they are those of the file's content
pub file_seen : (o : Offsets) (file : ℕ) (f : FileDescriptorProto)
    → map seen (inner_declarations o file f) ≡ map told (view.declarations (file_view f))
file_seen o file f =
    let n = text_of f.package in
    let past = past_trees o (trees_of f) in
    let messages = messages_seen [] (pos 4) n file None 0 o f.message_type.items in
    let enums = enums_seen [] (pos 5) n file None past.enums 0 f.enum_type.items in
    let services = services_seen n file o.services 0 f.service.items in
    let others = extensions_seen [] (pos 7) n file None past.extensions 0 f.extension.items in
    both _ _ _ _ messages (both _ _ _ _ enums (both _ _ _ _ services others))
    ∙ ap (λ n. map told (outside f n)) (sym (text_seen f.package))
