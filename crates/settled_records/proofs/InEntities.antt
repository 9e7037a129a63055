-- What is said of all options of a file is so of those of its entities.
use Rattle.std.proofs.Common.{◌≡◌, ◌+◌, ℕ, ℤ, pos, List, [], ◌∷◌, ◌++◌, map, Option, Some, None, sym, subst}
use Rattle.std.proofs.lemmas.List.{append-nil, append_assoc}
use Rattle.std.specs.List.{AllByRecursion}
use Rattle.std.specs.Option.{option_map}
use Rattle.descriptor_records.specs.Content.{OptionsContent, enum_value_view, enum_view, extension_range_view, field_view, file_view, message_view, method_view, oneof_view, options_view, service_view}
use Rattle.descriptor_records.specs.declared.enums.EnumDescriptorProto.{EnumDescriptorProto}
use Rattle.descriptor_records.specs.declared.enums.EnumValueDescriptorProto.{EnumValueDescriptorProto}
use Rattle.descriptor_records.specs.declared.field.FieldDescriptorProto.{FieldDescriptorProto}
use Rattle.descriptor_records.specs.declared.field.OneofDescriptorProto.{OneofDescriptorProto}
use Rattle.descriptor_records.specs.declared.file.FileDescriptorProto.{FileDescriptorProto}
use Rattle.descriptor_records.specs.declared.message.ExtensionRange.{ExtensionRange}
use Rattle.descriptor_records.specs.declared.options.Options.{Options}
use Rattle.descriptor_records.specs.declared.service.MethodDescriptorProto.{MethodDescriptorProto}
use Rattle.descriptor_records.specs.declared.service.ServiceDescriptorProto.{ServiceDescriptorProto}
use Rattle.option_parts.specs.declared.option_scope.OptionScope.{OptionScope}
use Rattle.option_parts.specs.declared.option_scope.OptionScope.TheVariants as scopes
use Rattle.reflect_declarations.specs.Declarations.{each, entry, file_declarations, one_enum, one_extension, one_field, one_method, one_oneof, one_service, one_value, past_message, past_tree, past_trees, tree_declarations, trees_declarations, trees_of}
use Rattle.reflect_declarations.specs.Tree.{Message, message, Messages, no_messages, more_messages, text_of}
use Rattle.reflect_declarations.specs.declared.offsets.Offsets.{Offsets}
use Rattle.reflect_options.specs.Entities.{entities, file_entities, no_offsets, range_at}
use Rattle.reflect_scope.specs.Means.{join}
use Rattle.linked_view.proofs.Walked.{tree_content, trees_content}
use Rattle.protobuf_model.proofs.Arranged.{all_append}
use Rattle.settled_records.proofs.AllOptions.{InEnum, InField, InFile, InList, InMessage, InMessages, InMethod, InOneof, InOwn, InRange, InService, InValue, Said, below, unlisted}
use Rattle.settled_records.proofs.Entities.{all_flat, types_are}
use Rattle.settled_records.proofs.OfEntities.{Meet, Meets}

-- ---- lists
each_of : {A B C : Type 0} (P : B → Type 0) (one : ℕ → A → List B) (view : A → C) (In : Said → C → Type 0) (Q : Said) (number : ℤ)
    → ((k : ℕ) (x : A) → In (below Q number k) (view x) → AllByRecursion P (one k x)) → (k : ℕ) (xs : List A)
    → InList In Q number k (map view xs) → AllByRecursion P (each one k xs)
each_of P one view In Q number h k [] all = tt
each_of P one view In Q number h k (x ∷ xs) all = all_append P (one k x) (each one (k + 1) xs) (h k x all.0) (each_of P one view In Q number h (k + 1) xs all.1)

module _ (W : ℕ → Said) (file : ℕ) where
  -- what a path leads to is so at the path
  abbrev Comes : List ℤ → Said → Type 0
  Comes path Q = (scope : OptionScope) (rest : List ℤ) (o : OptionsContent) → Q scope rest o → W file scope (path ++ rest) o

  further : (path : List ℤ) (Q : Said) (number : ℤ) (k : ℕ) → Comes path Q → Comes (entry path number k) (below Q number k)
  further path Q number k comes scope rest o q = subst (λ p. W file scope p o) (sym (append_assoc path (number ∷ pos k ∷ []) rest)) (comes scope (number ∷ pos k ∷ rest) o q)

  own_of : (scope : OptionScope) (path : List ℤ) (Q : Said) → Comes path Q → (x : Option Options) → InOwn scope Q (option_map options_view x) → (r : Options) → x ≡ Some r
      → W file scope path (options_view r)
  own_of scope path Q comes None all r e = absurd (cc e)
  own_of scope path Q comes (Some x) all r e =
      let same : x ≡ r = cc e in
      subst (λ p. W file scope p (options_view r)) (append-nil path) (comes scope [] (options_view r) (subst (λ y. Q scope [] (options_view y)) same all))

  -- ---- enums and services
  value_of : (path : List ℤ) (scope : List ℕ) (parent : ℕ) (Q : Said) → Comes path Q → (k : ℕ) (v : EnumValueDescriptorProto)
      → InValue (below Q (pos 2) k) (enum_value_view v) → AllByRecursion (Meet W) (one_value path scope file parent k v)
  value_of path scope parent Q comes k v all = ((own_of scopes.EnumValue (entry path (pos 2) k) (below Q (pos 2) k) (further path Q (pos 2) k comes) v.options all, tt), tt)

  enum_of : (path : List ℤ) (number : ℤ) (scope : List ℕ) (parent : Option ℕ) (first : ℕ) (Q : Said) → Comes path Q → (k : ℕ) (e : EnumDescriptorProto)
      → InEnum (below Q number k) (enum_view e) → AllByRecursion (Meet W) (one_enum path number scope file parent first k e)
  enum_of path number scope parent first Q comes k e all =
      let here = further path Q number k comes in (
        (own_of scopes.Enum (entry path number k) (below Q number k) here e.options all.0, tt),
        each_of (Meet W) (one_value (entry path number k) scope file (first + k)) enum_value_view InValue (below Q number k) (pos 2)
            (value_of (entry path number k) scope (first + k) (below Q number k) here) 0 e.value.items all.1,
      )

  method_of : (path : List ℤ) (scope : List ℕ) (parent : ℕ) (Q : Said) → Comes path Q → (k : ℕ) (m : MethodDescriptorProto)
      → InMethod (below Q (pos 2) k) (method_view m) → AllByRecursion (Meet W) (one_method path scope file parent k m)
  method_of path scope parent Q comes k m all = ((own_of scopes.Method (entry path (pos 2) k) (below Q (pos 2) k) (further path Q (pos 2) k comes) m.options all, tt), tt)

  service_of : (scope : List ℕ) (first : ℕ) (Q : Said) → Comes [] Q → (k : ℕ) (s : ServiceDescriptorProto)
      → InService (below Q (pos 6) k) (service_view s) → AllByRecursion (Meet W) (one_service scope file first k s)
  service_of scope first Q comes k s all =
      let here = further [] Q (pos 6) k comes in
      let name = join scope (text_of s.name) in (
        (own_of scopes.Service (entry [] (pos 6) k) (below Q (pos 6) k) here s.options all.0, tt),
        each_of (Meet W) (one_method (entry [] (pos 6) k) name file (first + k)) method_view InMethod (below Q (pos 6) k) (pos 2)
            (method_of (entry [] (pos 6) k) name (first + k) (below Q (pos 6) k) here) 0 s.method.items all.1,
      )

  -- ---- parts of messages
  extension_of : (path : List ℤ) (number : ℤ) (scope : List ℕ) (parent : Option ℕ) (first : ℕ) (Q : Said) → Comes path Q → (k : ℕ) (x : FieldDescriptorProto)
      → InField (below Q number k) (field_view x) → AllByRecursion (Meet W) (one_extension path number scope file parent first k x)
  extension_of path number scope parent first Q comes k x all =
      ((own_of scopes.Field (entry path number k) (below Q number k) (further path Q number k comes) x.options all, tt), tt)

  field_of : (path : List ℤ) (scope : List ℕ) (parent : ℕ) (Q : Said) → Comes path Q → (k : ℕ) (f : FieldDescriptorProto)
      → InField (below Q (pos 2) k) (field_view f) → AllByRecursion (Meet W) (one_field path scope file parent k f)
  field_of path scope parent Q comes k f all = ((own_of scopes.Field (entry path (pos 2) k) (below Q (pos 2) k) (further path Q (pos 2) k comes) f.options all, tt), tt)

  oneof_of : (path : List ℤ) (scope : List ℕ) (parent : ℕ) (Q : Said) → Comes path Q → (k : ℕ) (x : OneofDescriptorProto)
      → InOneof (below Q (pos 8) k) (oneof_view x) → AllByRecursion (Meet W) (one_oneof path scope file parent k x)
  oneof_of path scope parent Q comes k x all = ((own_of scopes.Oneof (entry path (pos 8) k) (below Q (pos 8) k) (further path Q (pos 8) k comes) x.options all, tt), tt)

  range_of : (path : List ℤ) (name : List ℕ) (Q : Said) → Comes path Q → (k : ℕ) (r : ExtensionRange)
      → InRange (below Q (pos 5) k) (extension_range_view r) → AllByRecursion (Meets W) (range_at file path name k r)
  range_of path name Q comes k r all = (own_of scopes.ExtensionRange (entry path (pos 5) k) (below Q (pos 5) k) (further path Q (pos 5) k comes) r.options all, tt)

  -- ---- messages
  mutual
    tree_of : (path : List ℤ) (scope : List ℕ) (parent : Option ℕ) (before : Offsets) (Q : Said) → Comes path Q → (m : Message)
        → InMessage Q (tree_content m) → AllByRecursion (Meet W) (tree_declarations path scope file parent before m)
    tree_of path scope parent before Q comes (message own nested) all =
        let n = join scope (text_of own.name) in
        let up = Some before.messages in
        let behind = past_trees (past_message before) nested in
        let parts = all.0 in
        let fields = each_of (Meet W) (one_field path n file before.messages) field_view InField Q (pos 2) (field_of path n before.messages Q comes) 0 own.field parts.field in
        let types = trees_of_all path (pos 3) n up 0 (past_message before) Q comes nested all.1 in
        let enums = each_of (Meet W) (one_enum path (pos 4) n file up behind.enums) enum_view InEnum Q (pos 4) (enum_of path (pos 4) n up behind.enums Q comes) 0 own.enum_type parts.enum in
        let extensions = each_of (Meet W) (one_extension path (pos 6) n file up behind.extensions) field_view InField Q (pos 6)
        (extension_of path (pos 6) n up behind.extensions Q comes) 0 own.extension parts.extension in
        let oneofs = each_of (Meet W) (one_oneof path n file before.messages) oneof_view InOneof Q (pos 8) (oneof_of path n before.messages Q comes) 0 own.oneof_decl parts.oneof in
        let ranges = each_of (Meets W) (range_at file path n) extension_range_view InRange Q (pos 5) (range_of path n Q comes) 0 own.extension_range parts.range in (
          (own_of scopes.Message path Q comes own.options parts.own, ranges),
          all_append (Meet W) _ _ fields (all_append (Meet W) _ _ types (all_append (Meet W) _ _ enums (all_append (Meet W) _ _ extensions oneofs))),
        )

    trees_of_all : (path : List ℤ) (number : ℤ) (scope : List ℕ) (parent : Option ℕ) (k : ℕ) (before : Offsets) (Q : Said) → Comes path Q → (ms : Messages)
        → InMessages Q number k (trees_content ms) → AllByRecursion (Meet W) (trees_declarations path number scope file parent k before ms)
    trees_of_all path number scope parent k before Q comes no_messages all = tt
    trees_of_all path number scope parent k before Q comes (more_messages m ms) all =
        all_append (Meet W) (tree_declarations (entry path number k) scope file parent before m) _
        (tree_of (entry path number k) scope parent before (below Q number k) (further path Q number k comes) m all.0)
        (trees_of_all path number scope parent (k + 1) (past_tree before m) Q comes ms all.1)

  -- ---- files
  pub entities_of : (f : FileDescriptorProto) → InFile (W file) (file_view f) → AllByRecursion (Meets W) (file_entities file f)
  entities_of f all =
      let scope = text_of f.package in
      let behind = past_trees no_offsets (trees_of f) in
      let comes : Comes [] (W file) = λ scope rest o q. q in
      let messages = subst (InMessages (W file) (pos 4) 0) (types_are f.message_type.items) (unlisted (W file) (pos 4) 0 (map message_view f.message_type.items) all.message_type) in
      let types = trees_of_all [] (pos 4) scope None 0 no_offsets (W file) comes (trees_of f) messages in
      let enums = each_of (Meet W) (one_enum [] (pos 5) scope file None behind.enums) enum_view InEnum (W file) (pos 5)
      (enum_of [] (pos 5) scope None behind.enums (W file) comes) 0 f.enum_type.items all.enum_type in
      let services = each_of (Meet W) (one_service scope file no_offsets.services) service_view InService (W file) (pos 6)
      (service_of scope no_offsets.services (W file) comes) 0 f.service.items all.service in
      let extensions = each_of (Meet W) (one_extension [] (pos 7) scope file None behind.extensions) field_view InField (W file) (pos 7)
      (extension_of [] (pos 7) scope None behind.extensions (W file) comes) 0 f.extension.items all.extension in
      all_flat (Meets W) entities (file_declarations no_offsets file f) (
        (own_of scopes.File [] (W file) comes f.options all.own, tt),
        all_append (Meet W) _ _ types (all_append (Meet W) _ _ enums (all_append (Meet W) _ _ services extensions)),
      )
