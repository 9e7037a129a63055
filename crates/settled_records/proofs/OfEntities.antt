-- What is said of the options of a file's entities is so of all options in the file.
use Rattle.std.proofs.Common.{◌≡◌, ◌+◌, ℕ, ℤ, pos, List, [], ◌∷◌, ◌++◌, map, Option, Some, None, refl, sym, subst}
use Rattle.std.proofs.lemmas.List.{append-nil, append_assoc}
use Rattle.std.proofs.lemmas.List.Concat.{flat_map-cons}
use Rattle.std.specs.List.{AllByRecursion, flat_map}
use Rattle.std.specs.Option.{option_map}
use Rattle.descriptor_records.specs.Content.{OptionsContent, enum_value_view, enum_view, extension_range_view, field_view, file_view, message_view, method_view, oneof_view, options_view, service_view}
use Rattle.descriptor_records.specs.declared.enums.EnumDescriptorProto.{EnumDescriptorProto}
use Rattle.descriptor_records.specs.declared.enums.EnumValueDescriptorProto.{EnumValueDescriptorProto}
use Rattle.descriptor_records.specs.declared.field.FieldDescriptorProto.{FieldDescriptorProto}
use Rattle.descriptor_records.specs.declared.field.OneofDescriptorProto.{OneofDescriptorProto}
use Rattle.descriptor_records.specs.declared.file.FileDescriptorProto.{FileDescriptorProto}
use Rattle.descriptor_records.specs.declared.message.ExtensionRange.{ExtensionRange}
use Rattle.descriptor_records.specs.declared.options.Options.{Options}
use Rattle.descriptor_records.specs.declared.service.MethodDescriptorProto.{MethodDescriptorProto}
use Rattle.descriptor_records.specs.declared.service.ServiceDescriptorProto.{ServiceDescriptorProto}
use Rattle.option_parts.specs.declared.option_scope.OptionScope.{OptionScope}
use Rattle.option_parts.specs.declared.option_scope.OptionScope.TheVariants as scopes
use Rattle.reflect_declarations.specs.Declarations.{Declaration, each, entry, file_declarations, one_enum, one_extension, one_field, one_method, one_oneof, one_service, one_value, past_message, past_tree, past_trees, tree_declarations, trees_declarations, trees_of}
use Rattle.reflect_declarations.specs.Tree.{Message, message, Messages, no_messages, more_messages, text_of}
use Rattle.reflect_declarations.specs.declared.offsets.Offsets.{Offsets}
use Rattle.reflect_options.specs.Entities.{Entity, entities, file_entities, no_offsets, range_at}
use Rattle.reflect_scope.specs.Means.{join}
use Rattle.linked_view.proofs.Named.{all_split}
use Rattle.linked_view.proofs.Walked.{tree_content, trees_content}
use Rattle.settled_records.proofs.AllOptions.{InEnum, InField, InFile, InList, InMessage, InMessages, InMethod, InOneof, InOwn, InRange, InService, InValue, Said, below, listed}
use Rattle.settled_records.proofs.Entities.{types_are}

-- ---- lists
flat_all : {A B : Type 0} (P : B → Type 0) (f : A → List B) (xs : List A) → AllByRecursion P (flat_map f xs) → AllByRecursion (λ x. AllByRecursion P (f x)) xs
flat_all P f [] all = tt
flat_all P f (x ∷ xs) all = let parts = all_split P (f x) (flat_map f xs) (subst (AllByRecursion P) (flat_map-cons f x xs) all) in (parts.0, flat_all P f xs parts.1)

each_in : {A B C : Type 0} (P : B → Type 0) (one : ℕ → A → List B) (view : A → C) (In : Said → C → Type 0) (Q : Said) (number : ℤ)
    → ((k : ℕ) (x : A) → AllByRecursion P (one k x) → In (below Q number k) (view x)) → (k : ℕ) (xs : List A)
    → AllByRecursion P (each one k xs) → InList In Q number k (map view xs)
each_in P one view In Q number h k [] all = tt
each_in P one view In Q number h k (x ∷ xs) all =
    let parts = all_split P (one k x) (each one (k + 1) xs) all in (h k x parts.0, each_in P one view In Q number h (k + 1) xs parts.1)

-- options of an entity, by its file and its path
module _ (W : ℕ → Said) where
  abbrev pub Meets : Entity → Type 0
  Meets c = (r : Options) → c.options ≡ Some r → W c.file c.scope c.path (options_view r)

  abbrev pub Meet : Declaration → Type 0
  Meet d = AllByRecursion Meets (entities d)

module _ (W : ℕ → Said) (file : ℕ) where
  -- what a path leads to
  abbrev Leads : List ℤ → Said → Type 0
  Leads path Q = (scope : OptionScope) (rest : List ℤ) (o : OptionsContent) → W file scope (path ++ rest) o → Q scope rest o

  further : (path : List ℤ) (Q : Said) (number : ℤ) (k : ℕ) → Leads path Q → Leads (entry path number k) (below Q number k)
  further path Q number k leads scope rest o w = leads scope (number ∷ pos k ∷ rest) o (subst (λ p. W file scope p o) (append_assoc path (number ∷ pos k ∷ []) rest) w)

  own_in : (scope : OptionScope) (path : List ℤ) (Q : Said) → Leads path Q → (x : Option Options) → ((r : Options) → x ≡ Some r → W file scope path (options_view r))
      → InOwn scope Q (option_map options_view x)
  own_in scope path Q leads None all = tt
  own_in scope path Q leads (Some r) all = leads scope [] (options_view r) (subst (λ p. W file scope p (options_view r)) (sym (append-nil path)) (all r refl))

  -- ---- enums and services
  value_in : (path : List ℤ) (scope : List ℕ) (parent : ℕ) (Q : Said) → Leads path Q → (k : ℕ) (v : EnumValueDescriptorProto)
      → AllByRecursion (Meet W) (one_value path scope file parent k v) → InValue (below Q (pos 2) k) (enum_value_view v)
  value_in path scope parent Q leads k v all = own_in scopes.EnumValue (entry path (pos 2) k) (below Q (pos 2) k) (further path Q (pos 2) k leads) v.options all.0.0

  enum_in : (path : List ℤ) (number : ℤ) (scope : List ℕ) (parent : Option ℕ) (first : ℕ) (Q : Said) → Leads path Q → (k : ℕ) (e : EnumDescriptorProto)
      → AllByRecursion (Meet W) (one_enum path number scope file parent first k e) → InEnum (below Q number k) (enum_view e)
  enum_in path number scope parent first Q leads k e all =
      let here = further path Q number k leads in (
        own_in scopes.Enum (entry path number k) (below Q number k) here e.options all.0.0,
        each_in (Meet W) (one_value (entry path number k) scope file (first + k)) enum_value_view InValue (below Q number k) (pos 2)
            (value_in (entry path number k) scope (first + k) (below Q number k) here) 0 e.value.items all.1,
      )

  method_in : (path : List ℤ) (scope : List ℕ) (parent : ℕ) (Q : Said) → Leads path Q → (k : ℕ) (m : MethodDescriptorProto)
      → AllByRecursion (Meet W) (one_method path scope file parent k m) → InMethod (below Q (pos 2) k) (method_view m)
  method_in path scope parent Q leads k m all = own_in scopes.Method (entry path (pos 2) k) (below Q (pos 2) k) (further path Q (pos 2) k leads) m.options all.0.0

  service_in : (scope : List ℕ) (first : ℕ) (Q : Said) → Leads [] Q → (k : ℕ) (s : ServiceDescriptorProto)
      → AllByRecursion (Meet W) (one_service scope file first k s) → InService (below Q (pos 6) k) (service_view s)
  service_in scope first Q leads k s all =
      let here = further [] Q (pos 6) k leads in
      let name = join scope (text_of s.name) in (
        own_in scopes.Service (entry [] (pos 6) k) (below Q (pos 6) k) here s.options all.0.0,
        each_in (Meet W) (one_method (entry [] (pos 6) k) name file (first + k)) method_view InMethod (below Q (pos 6) k) (pos 2)
            (method_in (entry [] (pos 6) k) name (first + k) (below Q (pos 6) k) here) 0 s.method.items all.1,
      )

  -- ---- parts of messages
  extension_in : (path : List ℤ) (number : ℤ) (scope : List ℕ) (parent : Option ℕ) (first : ℕ) (Q : Said) → Leads path Q → (k : ℕ) (x : FieldDescriptorProto)
      → AllByRecursion (Meet W) (one_extension path number scope file parent first k x) → InField (below Q number k) (field_view x)
  extension_in path number scope parent first Q leads k x all = own_in scopes.Field (entry path number k) (below Q number k) (further path Q number k leads) x.options all.0.0

  field_in : (path : List ℤ) (scope : List ℕ) (parent : ℕ) (Q : Said) → Leads path Q → (k : ℕ) (f : FieldDescriptorProto)
      → AllByRecursion (Meet W) (one_field path scope file parent k f) → InField (below Q (pos 2) k) (field_view f)
  field_in path scope parent Q leads k f all = own_in scopes.Field (entry path (pos 2) k) (below Q (pos 2) k) (further path Q (pos 2) k leads) f.options all.0.0

  oneof_in : (path : List ℤ) (scope : List ℕ) (parent : ℕ) (Q : Said) → Leads path Q → (k : ℕ) (x : OneofDescriptorProto)
      → AllByRecursion (Meet W) (one_oneof path scope file parent k x) → InOneof (below Q (pos 8) k) (oneof_view x)
  oneof_in path scope parent Q leads k x all = own_in scopes.Oneof (entry path (pos 8) k) (below Q (pos 8) k) (further path Q (pos 8) k leads) x.options all.0.0

  ranges_in : (path : List ℤ) (name : List ℕ) (Q : Said) → Leads path Q → (k : ℕ) (rs : List ExtensionRange)
      → AllByRecursion (Meets W) (each (range_at file path name) k rs) → InList InRange Q (pos 5) k (map extension_range_view rs)
  ranges_in path name Q leads k [] all = tt
  ranges_in path name Q leads k (r ∷ rs) all =
      let parts = all_split (Meets W) (range_at file path name k r) (each (range_at file path name) (k + 1) rs) all in (
        own_in scopes.ExtensionRange (entry path (pos 5) k) (below Q (pos 5) k) (further path Q (pos 5) k leads) r.options parts.0.0,
        ranges_in path name Q leads (k + 1) rs parts.1,
      )

  -- ---- messages
  mutual
    tree_in : (path : List ℤ) (scope : List ℕ) (parent : Option ℕ) (before : Offsets) (Q : Said) → Leads path Q → (m : Message)
        → AllByRecursion (Meet W) (tree_declarations path scope file parent before m) → InMessage Q (tree_content m)
    tree_in path scope parent before Q leads (message own nested) all =
        let n = join scope (text_of own.name) in
        let up = Some before.messages in
        let behind = past_trees (past_message before) nested in
        let a = all_split (Meet W) (each (one_field path n file before.messages) 0 own.field) _ all.1 in
        let b = all_split (Meet W) (trees_declarations path (pos 3) n file up 0 (past_message before) nested) _ a.1 in
        let c = all_split (Meet W) (each (one_enum path (pos 4) n file up behind.enums) 0 own.enum_type) _ b.1 in
        let d = all_split (Meet W) (each (one_extension path (pos 6) n file up behind.extensions) 0 own.extension) _ c.1 in (
          record {
            field = each_in (Meet W) (one_field path n file before.messages) field_view InField Q (pos 2) (field_in path n before.messages Q leads) 0 own.field a.0;
            extension = each_in (Meet W) (one_extension path (pos 6) n file up behind.extensions) field_view InField Q (pos 6)
                (extension_in path (pos 6) n up behind.extensions Q leads) 0 own.extension d.0;
            enum = each_in (Meet W) (one_enum path (pos 4) n file up behind.enums) enum_view InEnum Q (pos 4) (enum_in path (pos 4) n up behind.enums Q leads) 0 own.enum_type c.0;
            range = ranges_in path n Q leads 0 own.extension_range all.0.1;
            oneof = each_in (Meet W) (one_oneof path n file before.messages) oneof_view InOneof Q (pos 8) (oneof_in path n before.messages Q leads) 0 own.oneof_decl d.1;
            own = own_in scopes.Message path Q leads own.options all.0.0;
          },
          trees_in path (pos 3) n up 0 (past_message before) Q leads nested b.0,
        )

    trees_in : (path : List ℤ) (number : ℤ) (scope : List ℕ) (parent : Option ℕ) (k : ℕ) (before : Offsets) (Q : Said) → Leads path Q → (ms : Messages)
        → AllByRecursion (Meet W) (trees_declarations path number scope file parent k before ms) → InMessages Q number k (trees_content ms)
    trees_in path number scope parent k before Q leads no_messages all = tt
    trees_in path number scope parent k before Q leads (more_messages m ms) all =
        let parts = all_split (Meet W) (tree_declarations (entry path number k) scope file parent before m) _ all in (
          tree_in (entry path number k) scope parent before (below Q number k) (further path Q number k leads) m parts.0,
          trees_in path number scope parent (k + 1) (past_tree before m) Q leads ms parts.1,
        )

  -- ---- files
  pub file_in : (f : FileDescriptorProto) → AllByRecursion (Meets W) (file_entities file f) → InFile (W file) (file_view f)
  file_in f met =
      let all = flat_all (Meets W) entities (file_declarations no_offsets file f) met in
      let scope = text_of f.package in
      let behind = past_trees no_offsets (trees_of f) in
      let leads : Leads [] (W file) = λ scope rest o w. w in
      let a = all_split (Meet W) (trees_declarations [] (pos 4) scope file None 0 no_offsets (trees_of f)) _ all.1 in
      let b = all_split (Meet W) (each (one_enum [] (pos 5) scope file None behind.enums) 0 f.enum_type.items) _ a.1 in
      let c = all_split (Meet W) (each (one_service scope file no_offsets.services) 0 f.service.items) _ b.1 in
      let types = trees_in [] (pos 4) scope None 0 no_offsets (W file) leads (trees_of f) a.0 in
      record {
        message_type = listed (W file) (pos 4) 0 (map message_view f.message_type.items) (subst (InMessages (W file) (pos 4) 0) (sym (types_are f.message_type.items)) types);
        enum_type = each_in (Meet W) (one_enum [] (pos 5) scope file None behind.enums) enum_view InEnum (W file) (pos 5)
            (enum_in [] (pos 5) scope None behind.enums (W file) leads) 0 f.enum_type.items b.0;
        service = each_in (Meet W) (one_service scope file no_offsets.services) service_view InService (W file) (pos 6)
            (service_in scope no_offsets.services (W file) leads) 0 f.service.items c.0;
        extension = each_in (Meet W) (one_extension [] (pos 7) scope file None behind.extensions) field_view InField (W file) (pos 7)
            (extension_in [] (pos 7) scope None behind.extensions (W file) leads) 0 f.extension.items c.1;
        own = own_in scopes.File [] (W file) leads f.options all.0.0;
      }
