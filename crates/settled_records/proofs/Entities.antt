-- Each entity of a file stands where its path leads, with a level left for its options.
use Rattle.std.proofs.Common.{◌≡◌, ◌<◌, ◌-◌, ◌+◌, ℕ, ℤ, pos, List, [], ◌∷◌, ◌++◌, map, Option, Some, None, false, ◌==◌, ap, ◌∙◌, refl, sym, subst}
use Rattle.std.proofs.lemmas.Bool.Decides.{Decides-eqb}
use Rattle.std.proofs.lemmas.List.{append-nil, append_assoc}
use Rattle.std.proofs.lemmas.List.Concat.{flat_map-cons}
use Rattle.protobuf_model.proofs.Arranged.{all_append}
use Rattle.std.specs.List.{AllByRecursion, flat_map}
use Rattle.std.specs.Option.{option_map}
use Rattle.descriptor_records.specs.Content.{OptionsContent, enum_value_view, enum_view, extension_range_view, field_view, file_view, messages_of, message_view, method_view, oneof_view, options_view, service_view}
use Rattle.descriptor_records.specs.Content as content
use Rattle.descriptor_records.specs.declared.enums.EnumDescriptorProto.{EnumDescriptorProto}
use Rattle.descriptor_records.specs.declared.enums.EnumValueDescriptorProto.{EnumValueDescriptorProto}
use Rattle.descriptor_records.specs.declared.field.FieldDescriptorProto.{FieldDescriptorProto}
use Rattle.descriptor_records.specs.declared.field.OneofDescriptorProto.{OneofDescriptorProto}
use Rattle.descriptor_records.specs.declared.file.FileDescriptorProto.{FileDescriptorProto}
use Rattle.descriptor_records.specs.declared.message.DescriptorProto.{DescriptorProto}
use Rattle.descriptor_records.specs.declared.message.ExtensionRange.{ExtensionRange}
use Rattle.descriptor_records.specs.declared.options.Options.{Options}
use Rattle.descriptor_records.specs.declared.service.MethodDescriptorProto.{MethodDescriptorProto}
use Rattle.descriptor_records.specs.declared.service.ServiceDescriptorProto.{ServiceDescriptorProto}
use Rattle.option_parts.specs.declared.option_scope.OptionScope.{OptionScope}
use Rattle.option_parts.specs.declared.option_scope.OptionScope.TheVariants as scopes
use Rattle.reflect_declarations.specs.Declarations.{Declaration, each, entry, file_declarations, one_enum, one_extension, one_field, one_method, one_oneof, one_service, one_value, past_message, past_tree, past_trees, tree_declarations, trees_declarations, trees_of}
use Rattle.reflect_declarations.specs.Tree.{Message, message, Messages, no_messages, more_messages, text_of, tree_of}
use Rattle.reflect_declarations.specs.Tree as tree
use Rattle.reflect_declarations.specs.declared.offsets.Offsets.{Offsets}
use Rattle.reflect_options.specs.Entities.{Entity, entities, file_entities, no_offsets, range_at}
use Rattle.reflect_scope.specs.Means.{join}
use Rattle.linked_view.proofs.Completes.{all_mapped}
use Rattle.linked_view.proofs.Walked.{content_is, tree_content, trees_content}
use Rattle.plain_records.specs.PlainRecords.{ArePlainMessages, ArePlainOptions, IsInside, IsPlainEnum, IsPlainEnumValue, IsPlainExtensionRange, IsPlainField, IsPlainFile, IsPlainMessage, IsPlainMethod, IsPlainOneof, IsPlainService}
use Rattle.settled_records.proofs.Put.{Own, SuitsEnum, SuitsFile, SuitsMessage, SuitsPart, SuitsPartOfFile, SuitsService}

-- ---- lists
pub all_flat : {A B : Type 0} (P : B → Type 0) (f : A → List B) (xs : List A) → AllByRecursion (λ x. AllByRecursion P (f x)) xs → AllByRecursion P (flat_map f xs)
all_flat P f [] all = tt
all_flat P f (x ∷ xs) all = subst (AllByRecursion P) (sym (flat_map-cons f x xs)) (all_append P (f x) (flat_map f xs) all.0 (all_flat P f xs all.1))

all_each : {A B : Type 0} (P : A → Type 0) (Q : B → Type 0) (one : ℕ → A → List B) → ((k : ℕ) (x : A) → P x → AllByRecursion Q (one k x)) → (k : ℕ) (xs : List A)
    → AllByRecursion P xs → AllByRecursion Q (each one k xs)
all_each P Q one h k [] all = tt
all_each P Q one h k (x ∷ xs) all = all_append Q (one k x) (each one (k + 1) xs) (h k x all.0) (all_each P Q one h (k + 1) xs all.1)

-- ---- numbers
abbrev value : ℤ → ℕ
value (pos n) = n
value z = 0

apart : (a b : ℕ) → (a == b) ≡ false → pos a ≡ pos b → ⊥
apart a b other is = cc (sym ((Decides-eqb a b).1 (ap value is)) ∙ other)

-- a file's message types, as trees and as contents
pub types_are : (ms : List DescriptorProto) → content.messages_of (map message_view ms) ≡ trees_content (tree.messages_of (map tree_of ms))
types_are [] = refl
types_are (m ∷ ms) = λ i. content.more_messages (content_is m i) (types_are ms i)

module _ (Says : OptionScope → OptionsContent → Type 0) (levels : ℕ) where
  -- where options are, a level is left for them
  room : (own : OptionScope) (l : ℕ) (options : Option Options) → ArePlainOptions Says own l (option_map options_view options) → (r : Options) → options ≡ Some r → 0 < l
  room own l None plain r e = absurd (cc e)
  room own l (Some x) plain r e = plain.0

  abbrev pub Suited : Entity → Type 0
  Suited c = (r : Options) → c.options ≡ Some r → (o : OptionsContent) → Says c.scope o → SuitsFile Says levels c.path o

  abbrev Suit : Declaration → Type 0
  Suit d = AllByRecursion Suited (entities d)

  -- ---- what a path leads to
  abbrev ToOwn : OptionScope → List ℤ → ℕ → Type 0
  ToOwn own path l = (o : OptionsContent) → (0 < l) × Says own o → SuitsFile Says levels path o

  abbrev ToEnum : List ℤ → ℕ → Type 0
  ToEnum path l = (rest : List ℤ) (o : OptionsContent) → SuitsEnum Says l rest o → SuitsFile Says levels (path ++ rest) o

  abbrev ToService : List ℤ → ℕ → Type 0
  ToService path l = (rest : List ℤ) (o : OptionsContent) → SuitsService Says l rest o → SuitsFile Says levels (path ++ rest) o

  abbrev ToMessage : List ℤ → ℕ → Type 0
  ToMessage path l = (rest : List ℤ) (o : OptionsContent) → SuitsMessage Says l rest o → SuitsFile Says levels (path ++ rest) o

  -- of what stands there itself
  here : (path : List ℤ) (o : OptionsContent) → SuitsFile Says levels (path ++ []) o → SuitsFile Says levels path o
  here path o = subst (λ p. SuitsFile Says levels p o) (append-nil path)

  below : (path : List ℤ) (tag : ℤ) (k : ℕ) (rest : List ℤ) (o : OptionsContent) → SuitsFile Says levels (path ++ (tag ∷ pos k ∷ rest)) o → SuitsFile Says levels (entry path tag k ++ rest) o
  below path tag k rest o = subst (λ p. SuitsFile Says levels p o) (sym (append_assoc path (tag ∷ pos k ∷ []) rest))

  -- ---- enums and services
  value_suits : (path : List ℤ) (scope : List ℕ) (file parent l : ℕ) → ToEnum path l → (k : ℕ) (v : EnumValueDescriptorProto)
      → IsInside (IsPlainEnumValue Says) l (enum_value_view v) → AllByRecursion Suit (one_value path scope file parent k v)
  value_suits path scope file parent l to k v plain =
      (((λ r e o says. to (pos 2 ∷ pos k ∷ []) o (λ is. (room scopes.EnumValue (l - 1) v.options plain.1.options r e, says))), tt), tt)

  enum_suits : (path : List ℤ) (tag : ℤ) (scope : List ℕ) (file : ℕ) (parent : Option ℕ) (first l : ℕ) → ((k : ℕ) → ToEnum (entry path tag k) (l - 1))
      → (k : ℕ) (e : EnumDescriptorProto) → IsInside (IsPlainEnum Says) l (enum_view e) → AllByRecursion Suit (one_enum path tag scope file parent first k e)
  enum_suits path tag scope file parent first l to k x plain = (
    ((λ r e o says. here (entry path tag k) o (to k [] o (room scopes.Enum (l - 1) x.options plain.1.options r e, says))), tt),
    all_each (λ v. IsInside (IsPlainEnumValue Says) (l - 1) (enum_value_view v)) Suit (one_value (entry path tag k) scope file (first + k))
        (value_suits (entry path tag k) scope file (first + k) (l - 1) (to k)) 0 x.value.items
        (all_mapped enum_value_view (IsInside (IsPlainEnumValue Says) (l - 1)) x.value.items plain.1.value),
  )

  method_suits : (path : List ℤ) (scope : List ℕ) (file parent l : ℕ) → ToService path l → (k : ℕ) (m : MethodDescriptorProto)
      → IsInside (IsPlainMethod Says) l (method_view m) → AllByRecursion Suit (one_method path scope file parent k m)
  method_suits path scope file parent l to k m plain =
      (((λ r e o says. to (pos 2 ∷ pos k ∷ []) o (λ is. (room scopes.Method (l - 1) m.options plain.1 r e, says))), tt), tt)

  service_suits : (scope : List ℕ) (file first l : ℕ) → ((k : ℕ) → ToService (entry [] (pos 6) k) (l - 1))
      → (k : ℕ) (s : ServiceDescriptorProto) → IsInside (IsPlainService Says) l (service_view s) → AllByRecursion Suit (one_service scope file first k s)
  service_suits scope file first l to k x plain = (
    ((λ r e o says. to k [] o (room scopes.Service (l - 1) x.options plain.1.options r e, says)), tt),
    all_each (λ m. IsInside (IsPlainMethod Says) (l - 1) (method_view m)) Suit (one_method (entry [] (pos 6) k) (join scope (text_of x.name)) file (first + k))
        (method_suits (entry [] (pos 6) k) (join scope (text_of x.name)) file (first + k) (l - 1) (to k)) 0 x.method.items
        (all_mapped method_view (IsInside (IsPlainMethod Says) (l - 1)) x.method.items plain.1.method),
  )

  extension_suits : (path : List ℤ) (tag : ℤ) (scope : List ℕ) (file : ℕ) (parent : Option ℕ) (first l : ℕ) → ((k : ℕ) → ToOwn scopes.Field (entry path tag k) (l - 1))
      → (k : ℕ) (x : FieldDescriptorProto) → IsInside (IsPlainField Says) l (field_view x) → AllByRecursion Suit (one_extension path tag scope file parent first k x)
  extension_suits path tag scope file parent first l to k x plain =
      (((λ r e o says. to k o (room scopes.Field (l - 1) x.options plain.1.options r e, says)), tt), tt)

  -- ---- a part of a message, by the number of its list
  in_field : (l : ℕ) (rest : List ℤ) (o : OptionsContent) (N : Type 0) → Own Says scopes.Field (l - 1) rest o → SuitsPart Says l (pos 2) rest o N
  in_field l rest o N suits = record {
    field = λ is. suits;
    extension = λ is. absurd (apart 2 6 refl is);
    nested = λ is. absurd (apart 2 3 refl is);
    enum = λ is. absurd (apart 2 4 refl is);
    range = λ is. absurd (apart 2 5 refl is);
    oneof = λ is. absurd (apart 2 8 refl is);
  }

  in_extension : (l : ℕ) (rest : List ℤ) (o : OptionsContent) (N : Type 0) → Own Says scopes.Field (l - 1) rest o → SuitsPart Says l (pos 6) rest o N
  in_extension l rest o N suits = record {
    field = λ is. absurd (apart 6 2 refl is);
    extension = λ is. suits;
    nested = λ is. absurd (apart 6 3 refl is);
    enum = λ is. absurd (apart 6 4 refl is);
    range = λ is. absurd (apart 6 5 refl is);
    oneof = λ is. absurd (apart 6 8 refl is);
  }

  in_nested : (l : ℕ) (rest : List ℤ) (o : OptionsContent) (N : Type 0) → N → SuitsPart Says l (pos 3) rest o N
  in_nested l rest o N suits = record {
    field = λ is. absurd (apart 3 2 refl is);
    extension = λ is. absurd (apart 3 6 refl is);
    nested = λ is. suits;
    enum = λ is. absurd (apart 3 4 refl is);
    range = λ is. absurd (apart 3 5 refl is);
    oneof = λ is. absurd (apart 3 8 refl is);
  }

  in_enum : (l : ℕ) (rest : List ℤ) (o : OptionsContent) (N : Type 0) → SuitsEnum Says (l - 1) rest o → SuitsPart Says l (pos 4) rest o N
  in_enum l rest o N suits = record {
    field = λ is. absurd (apart 4 2 refl is);
    extension = λ is. absurd (apart 4 6 refl is);
    nested = λ is. absurd (apart 4 3 refl is);
    enum = λ is. suits;
    range = λ is. absurd (apart 4 5 refl is);
    oneof = λ is. absurd (apart 4 8 refl is);
  }

  in_range : (l : ℕ) (rest : List ℤ) (o : OptionsContent) (N : Type 0) → Own Says scopes.ExtensionRange (l - 1) rest o → SuitsPart Says l (pos 5) rest o N
  in_range l rest o N suits = record {
    field = λ is. absurd (apart 5 2 refl is);
    extension = λ is. absurd (apart 5 6 refl is);
    nested = λ is. absurd (apart 5 3 refl is);
    enum = λ is. absurd (apart 5 4 refl is);
    range = λ is. suits;
    oneof = λ is. absurd (apart 5 8 refl is);
  }

  in_oneof : (l : ℕ) (rest : List ℤ) (o : OptionsContent) (N : Type 0) → Own Says scopes.Oneof (l - 1) rest o → SuitsPart Says l (pos 8) rest o N
  in_oneof l rest o N suits = record {
    field = λ is. absurd (apart 8 2 refl is);
    extension = λ is. absurd (apart 8 6 refl is);
    nested = λ is. absurd (apart 8 3 refl is);
    enum = λ is. absurd (apart 8 4 refl is);
    range = λ is. absurd (apart 8 5 refl is);
    oneof = λ is. suits;
  }

  -- ---- messages
  fields_suit : (path : List ℤ) (scope : List ℕ) (file parent l : ℕ) → ToMessage path l → (fs : List FieldDescriptorProto)
      → AllByRecursion (IsInside (IsPlainField Says) (l - 1)) (map field_view fs) → AllByRecursion Suit (each (one_field path scope file parent) 0 fs)
  fields_suit path scope file parent l to fs plain =
      all_each (λ f. IsInside (IsPlainField Says) (l - 1) (field_view f)) Suit (one_field path scope file parent)
      (λ k f own. (((λ r e o says. to (pos 2 ∷ pos k ∷ []) o (in_field (l - 1) [] o (SuitsMessage Says (l - 1) [] o) (room scopes.Field (l - 1 - 1) f.options own.1.options r e, says))), tt), tt))
      0 fs (all_mapped field_view (IsInside (IsPlainField Says) (l - 1)) fs plain)

  oneofs_suit : (path : List ℤ) (scope : List ℕ) (file parent l : ℕ) → ToMessage path l → (os : List OneofDescriptorProto)
      → AllByRecursion (IsInside (IsPlainOneof Says) (l - 1)) (map oneof_view os) → AllByRecursion Suit (each (one_oneof path scope file parent) 0 os)
  oneofs_suit path scope file parent l to os plain =
      all_each (λ x. IsInside (IsPlainOneof Says) (l - 1) (oneof_view x)) Suit (one_oneof path scope file parent)
      (λ k x own. (((λ r e o says. to (pos 8 ∷ pos k ∷ []) o (in_oneof (l - 1) [] o (SuitsMessage Says (l - 1) [] o) (room scopes.Oneof (l - 1 - 1) x.options own.1 r e, says))), tt), tt))
      0 os (all_mapped oneof_view (IsInside (IsPlainOneof Says) (l - 1)) os plain)

  ranges_suit : (path : List ℤ) (scope : List ℕ) (file l : ℕ) → ToMessage path l → (rs : List ExtensionRange)
      → AllByRecursion (IsInside (IsPlainExtensionRange Says) (l - 1)) (map extension_range_view rs) → AllByRecursion Suited (each (range_at file path scope) 0 rs)
  ranges_suit path scope file l to rs plain =
      all_each (λ x. IsInside (IsPlainExtensionRange Says) (l - 1) (extension_range_view x)) Suited (range_at file path scope)
      (λ k x own. ((λ r e o says. to (pos 5 ∷ pos k ∷ []) o (in_range (l - 1) [] o (SuitsMessage Says (l - 1) [] o) (room scopes.ExtensionRange (l - 1 - 1) x.options own.1.options r e, says))), tt))
      0 rs (all_mapped extension_range_view (IsInside (IsPlainExtensionRange Says) (l - 1)) rs plain)

  enums_suit : (path : List ℤ) (tag : ℤ) (scope : List ℕ) (file : ℕ) (parent : Option ℕ) (first l : ℕ) → ((k : ℕ) → ToEnum (entry path tag k) (l - 1)) → (es : List EnumDescriptorProto)
      → AllByRecursion (IsInside (IsPlainEnum Says) l) (map enum_view es) → AllByRecursion Suit (each (one_enum path tag scope file parent first) 0 es)
  enums_suit path tag scope file parent first l to es plain =
      all_each (λ e. IsInside (IsPlainEnum Says) l (enum_view e)) Suit (one_enum path tag scope file parent first)
      (enum_suits path tag scope file parent first l to) 0 es (all_mapped enum_view (IsInside (IsPlainEnum Says) l) es plain)

  extensions_suit : (path : List ℤ) (tag : ℤ) (scope : List ℕ) (file : ℕ) (parent : Option ℕ) (first l : ℕ) → ((k : ℕ) → ToOwn scopes.Field (entry path tag k) (l - 1)) → (xs : List FieldDescriptorProto)
      → AllByRecursion (IsInside (IsPlainField Says) l) (map field_view xs) → AllByRecursion Suit (each (one_extension path tag scope file parent first) 0 xs)
  extensions_suit path tag scope file parent first l to xs plain =
      all_each (λ x. IsInside (IsPlainField Says) l (field_view x)) Suit (one_extension path tag scope file parent first)
      (extension_suits path tag scope file parent first l to) 0 xs (all_mapped field_view (IsInside (IsPlainField Says) l) xs plain)

  mutual
    tree_suits : (path : List ℤ) (scope : List ℕ) (file : ℕ) (parent : Option ℕ) (before : Offsets) (l : ℕ) → ToMessage path l → (m : Message)
        → IsPlainMessage Says l (tree_content m) → AllByRecursion Suit (tree_declarations path scope file parent before m)
    tree_suits path scope file parent before l to (message own nested) plain =
        let n = join scope (text_of own.name) in
        let parts = plain.1 in
        let up = Some before.messages in
        let behind = past_trees (past_message before) nested in
        let fields = fields_suit path n file before.messages l to own.field parts.fields_are in
        let inner = trees_suit path (pos 3) n file up 0 (past_message before) (l - 1)
        (λ k rest o suits. below path (pos 3) k rest o (to (pos 3 ∷ pos k ∷ rest) o (in_nested (l - 1) rest o (SuitsMessage Says (l - 1) rest o) suits))) nested plain.2 in
        let enums = enums_suit path (pos 4) n file up behind.enums (l - 1)
        (λ k rest o suits. below path (pos 4) k rest o (to (pos 4 ∷ pos k ∷ rest) o (in_enum (l - 1) rest o (SuitsMessage Says (l - 1) rest o) suits))) own.enum_type parts.enums_are in
        let others = extensions_suit path (pos 6) n file up behind.extensions (l - 1)
        (λ k o suits. to (pos 6 ∷ pos k ∷ []) o (in_extension (l - 1) [] o (SuitsMessage Says (l - 1) [] o) suits)) own.extension parts.extensions_are in
        let oneofs = oneofs_suit path n file before.messages l to own.oneof_decl parts.oneofs_are in
        let ranges = ranges_suit path n file l to own.extension_range parts.ranges_are in (
          ((λ r e o says. here path o (to [] o (room scopes.Message (l - 1) own.options parts.options_are r e, says))), ranges),
          all_append Suit _ _ fields (all_append Suit _ _ inner (all_append Suit _ _ enums (all_append Suit _ _ others oneofs))),
        )

    trees_suit : (path : List ℤ) (tag : ℤ) (scope : List ℕ) (file : ℕ) (parent : Option ℕ) (k : ℕ) (before : Offsets) (l : ℕ) → ((k : ℕ) → ToMessage (entry path tag k) l) → (ms : Messages)
        → ArePlainMessages Says l (trees_content ms) → AllByRecursion Suit (trees_declarations path tag scope file parent k before ms)
    trees_suit path tag scope file parent k before l to no_messages plain = tt
    trees_suit path tag scope file parent k before l to (more_messages m ms) plain =
        all_append Suit _ _ (tree_suits (entry path tag k) scope file parent before l (to k) m plain.0)
        (trees_suit path tag scope file parent (k + 1) (past_tree before m) l to ms plain.1)

  -- ---- a part of a file
  in_message_type : (l : ℕ) (rest : List ℤ) (o : OptionsContent) → SuitsMessage Says l rest o → SuitsPartOfFile Says l (pos 4) rest o
  in_message_type l rest o suits = record {
    message = λ is. suits;
    enum = λ is. absurd (apart 4 5 refl is);
    service = λ is. absurd (apart 4 6 refl is);
    extension = λ is. absurd (apart 4 7 refl is);
  }

  in_enum_type : (l : ℕ) (rest : List ℤ) (o : OptionsContent) → SuitsEnum Says (l - 1) rest o → SuitsPartOfFile Says l (pos 5) rest o
  in_enum_type l rest o suits = record {
    message = λ is. absurd (apart 5 4 refl is);
    enum = λ is. suits;
    service = λ is. absurd (apart 5 6 refl is);
    extension = λ is. absurd (apart 5 7 refl is);
  }

  in_service : (l : ℕ) (rest : List ℤ) (o : OptionsContent) → SuitsService Says (l - 1) rest o → SuitsPartOfFile Says l (pos 6) rest o
  in_service l rest o suits = record {
    message = λ is. absurd (apart 6 4 refl is);
    enum = λ is. absurd (apart 6 5 refl is);
    service = λ is. suits;
    extension = λ is. absurd (apart 6 7 refl is);
  }

  in_file_extension : (l : ℕ) (rest : List ℤ) (o : OptionsContent) → Own Says scopes.Field (l - 1) rest o → SuitsPartOfFile Says l (pos 7) rest o
  in_file_extension l rest o suits = record {
    message = λ is. absurd (apart 7 4 refl is);
    enum = λ is. absurd (apart 7 5 refl is);
    service = λ is. absurd (apart 7 6 refl is);
    extension = λ is. suits;
  }

  pub file_suits : (file : ℕ) (f : FileDescriptorProto) → IsPlainFile Says levels (file_view f) → AllByRecursion Suited (file_entities file f)
  file_suits file f plain =
      let scope = text_of f.package in
      let behind = past_trees no_offsets (trees_of f) in
      let types = trees_suit [] (pos 4) scope file None 0 no_offsets levels (λ k rest o suits. in_message_type levels rest o suits) (trees_of f)
      (subst (ArePlainMessages Says levels) (types_are f.message_type.items) plain.message_type) in
      let enums = enums_suit [] (pos 5) scope file None behind.enums levels (λ k rest o suits. in_enum_type levels rest o suits) f.enum_type.items plain.enum_type in
      let services = all_each (λ s. IsInside (IsPlainService Says) levels (service_view s)) Suit (one_service scope file no_offsets.services)
      (service_suits scope file no_offsets.services levels (λ k rest o suits. in_service levels rest o suits)) 0 f.service.items
      (all_mapped service_view (IsInside (IsPlainService Says) levels) f.service.items plain.service) in
      let others = extensions_suit [] (pos 7) scope file None behind.extensions levels (λ k o suits. in_file_extension levels [] o suits) f.extension.items plain.extension in
      all_flat Suited entities (file_declarations no_offsets file f) (
        ((λ r e o says. (room scopes.File levels f.options plain.options r e, says)), tt),
        all_append Suit _ _ types (all_append Suit _ _ enums (all_append Suit _ _ services others)),
      )
