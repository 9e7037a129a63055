-- What the records of sources say of each declaration of a batch.
use Rattle.std.proofs.Common.{◌≡◌, ◌⊎◌, inl, inr, ◌+◌, ◌++◌, ℕ, suc, ℤ, pos, true, false, List, [], ◌∷◌, map, Option, None, Some, option_map, String, Global, slice_get, refl, ap, subst, arith}
use Rattle.std.specs.Char.{to_ascii_lowercase}
use Rattle.std.specs.List.{AllByRecursion}
use Rattle.descriptor_records.specs.Content.{Text, text_view, field_view, enum_view, options_view, message_view, file_view}
use Rattle.descriptor_records.specs.Content as content
use Rattle.descriptor_records.specs.declared.enums.EnumDescriptorProto.{EnumDescriptorProto}
use Rattle.descriptor_records.specs.declared.enums.EnumValueDescriptorProto.{EnumValueDescriptorProto}
use Rattle.descriptor_records.specs.declared.field.FieldDescriptorProto.{FieldDescriptorProto}
use Rattle.descriptor_records.specs.declared.field.OneofDescriptorProto.{OneofDescriptorProto}
use Rattle.descriptor_records.specs.declared.file.FileDescriptorProto.{FileDescriptorProto}
use Rattle.descriptor_records.specs.declared.message.DescriptorProto.{DescriptorProto}
use Rattle.descriptor_records.specs.declared.service.MethodDescriptorProto.{MethodDescriptorProto}
use Rattle.descriptor_records.specs.declared.service.ServiceDescriptorProto.{ServiceDescriptorProto}
use Rattle.reflect_scope.specs.Means.{join, has_dot}
use Rattle.reflect_declarations.specs.Batches.{batch_declarations}
use Rattle.reflect_declarations.specs.Declarations.{Declaration, of_message, of_field, of_enum, of_extension, each, entry, message_declaration, one_field, one_oneof, one_value, one_enum, one_method, one_service, one_extension, past_message, past_tree, past_trees, past_file, trees_of, tree_declarations, trees_declarations, file_declarations}
use Rattle.reflect_declarations.specs.Tree.{text_of, MessageParts, Message, message, Messages, no_messages, more_messages, messages_of, tree_of}
use Rattle.reflect_declarations.specs.declared.offsets.Offsets.{Offsets}
use Rattle.reflect_pool.proofs.Grown.{all_behind}
use Rattle.text_model.specs.Identifiers.{is_identifier, is_full_name}
use Rattle.text_model.specs.Printed as printed
use Rattle.source_records.specs.SourceNames.{IsSpelled, IsWord, IsPackage, AreSpelled, HasSpelledValues, Declares, IsGroup, IsGroupField, AreParts, IsEntry, IsSourceMessage, AreSourceMessages, IsSourceFile}
use Rattle.reflect_index.proofs.Among.{Among, in_first, in_second, of_all}
use Rattle.linked_view.proofs.Completes.{all_mapped}
use Rattle.linked_view.proofs.Walked.{tree_content, trees_content, content_is}
use Rattle.linked_names.proofs.Dots.{IsNaming, full_join, word_undotted, identifier_undotted}

-- ---- texts that are there

pub spelled_text : (o : Option (String Global)) → IsSpelled (text_view o)
    → is_identifier (text_of o) ≡ true
spelled_text None h = absurd h
spelled_text (Some s) h = h

word_text : (o : Option (String Global)) → IsWord (text_view o) → has_dot (text_of o) ≡ false
word_text None h = absurd h
word_text (Some s) h = word_undotted (text_of (Some s)) h

pub named_text : (o : Option (String Global)) (t : Text) → text_view o ≡ Some t → text_of o ≡ t
named_text None t e = absurd (cc e)
named_text (Some s) t e = cc e

own_undotted : (E : Type 0) (o : Option (String Global))
    → IsSpelled (text_view o) ⊎ (E × IsWord (text_view o)) → has_dot (text_of o) ≡ false
own_undotted E o (inl h) = identifier_undotted (text_of o) (spelled_text o h)
own_undotted E o (inr h) = word_text o h.1

-- what stands in a message has a name for its scope, or is not there
may_hold : (E X : Type 0) (scope : Text) (o : Option (String Global)) → IsNaming scope
    → IsSpelled (text_view o) ⊎ (E × IsWord (text_view o)) → (E → X)
    → IsNaming (join scope (text_of o)) ⊎ X
may_hold E X scope o naming (inl h) none =
    inl (inr (full_join scope (text_of o) naming (spelled_text o h)))
may_hold E X scope o naming (inr h) none = inr (none h.0)

-- a file's messages, as its content has them
contents_are : (ms : List DescriptorProto) → content.messages_of (map message_view ms)
    ≡ trees_content (messages_of (map tree_of ms))
contents_are [] = refl
contents_are (m ∷ ms) = λ i. content.more_messages (content_is m i) (contents_are ms i)

-- ---- what is declared in a message

-- one of the declarations is a message of the name in the scope and the file
pub record IsNestedIn (sub : List Declaration) (s : Text) (n : ℕ) (t : Text) : Type 0 where
  pub declaration : Declaration
  pub own : MessageParts
  pub here : Among declaration sub
  pub body : declaration.body ≡ of_message own
  pub called : text_of own.name ≡ t
  pub name : declaration.name ≡ join s t
  pub file : declaration.file ≡ n

nested_there : (path : List ℤ) (tag : ℤ) (scope : Text) (file : ℕ) (parent : Option ℕ) (k : ℕ)
    (o : Offsets) (ms : Messages) (t : Text) → Declares (trees_content ms) t
    → IsNestedIn (trees_declarations path tag scope file parent k o ms) scope file t
nested_there path tag scope file parent k o no_messages t h = absurd h
nested_there path tag scope file parent k o (more_messages (message own nested) ms) t (inl e) =
    let called : text_of own.name ≡ t = named_text own.name t e in
    record {
      declaration = message_declaration (entry path tag k) (join scope (text_of own.name)) file
          parent o.messages own;
      own = own;
      here = inl refl;
      body = refl;
      called = called;
      name = ap (join scope) called;
      file = refl;
    }
nested_there path tag scope file parent k o (more_messages (message own nested) ms) t (inr h) =
    let rest = nested_there path tag scope file parent (k + 1) (past_tree o (message own nested)) ms
    t h in
    record {
      declaration = rest.declaration;
      own = rest.own;
      here = in_second rest.declaration
          (tree_declarations (entry path tag k) scope file parent o (message own nested))
          (trees_declarations path tag scope file parent (k + 1) (past_tree o (message own nested))
          ms) rest.here;
      body = rest.body;
      called = rest.called;
      name = rest.name;
      file = rest.file;
    }

-- ---- declarations among those of a batch

module _ (files : List FileDescriptorProto) (first : ℕ) (ds : List Declaration) where
  -- the index is that of one of the files
  pub record IsFileAt (n : ℕ) : Type 0 where
    pub place : ℕ
    pub own : FileDescriptorProto
    pub at : slice_get files place ≡ Some own
    pub index : n ≡ first + place

  -- a message of the index is declared under the full name
  pub record IsMessageAt (i : ℕ) (s : Text) : Type 0 where
    pub declaration : Declaration
    pub own : MessageParts
    pub here : Among declaration ds
    pub body : declaration.body ≡ of_message own
    pub index : declaration.index ≡ i
    pub name : declaration.name ≡ s

  -- what stands in the file, in the message of the index or else outside of messages, has the scope
  abbrev pub IsScopeOf : Option ℕ → ℕ → Text → Type 0
  IsScopeOf None n s = (f : IsFileAt n) × (text_of f.own.package ≡ s)
  IsScopeOf (Some i) n s = IsMessageAt i s

  -- a group of the message is of a type that the message declares, and called after it
  pub record IsGrouped (m : Declaration) (f : FieldDescriptorProto) : Type 0 where
    pub type : Text
    pub typed : text_view f.type_name ≡ Some type
    pub spelled : is_identifier type ≡ true
    pub lower : text_view f.name ≡ Some (map to_ascii_lowercase type)
    pub nested : IsNestedIn ds m.name m.file type

  pub record IsSourcedMessage (d : Declaration) (own : MessageParts) : Type 0 where
    pub parts : IsEntry (option_map options_view own.options) → AreParts (map field_view own.field)
    pub undotted : has_dot (text_of own.name) ≡ false
    pub scope : Text
    pub called : d.name ≡ join scope (text_of own.name)
    pub scoped : IsScopeOf d.parent d.file scope

  pub record IsSourcedField (d : Declaration) (r : FieldDescriptorProto) : Type 0 where
    pub outer : Declaration
    pub own : MessageParts
    pub here : Among outer ds
    pub body : outer.body ≡ of_message own
    pub parent : d.parent ≡ Some outer.index
    pub called : d.name ≡ join outer.name (text_of r.name)
    pub file : outer.file ≡ d.file
    pub placed : IsFileAt d.file
    pub spelled : IsSpelled (text_view r.name)
    pub grouped : IsGroup (field_view r) → IsGrouped outer r

  abbrev pub IsSourced : Declaration → Type 0
  IsSourced d = elim d.body [
    | of_message own ↦ IsSourcedMessage d own
    | of_field r ↦ IsSourcedField d r
    | of_enum e ↦ HasSpelledValues (enum_view e)
    | of_extension x ↦ is_full_name (printed.parts d.name) ≡ true
    | _ ↦ Unit {0}
  ]

  abbrev AreSourced : List Declaration → Type 0
  AreSourced xs = AllByRecursion IsSourced xs

  abbrev Inside : List Declaration → Type 0
  Inside sub = (x : Declaration) → Among x sub → Among x ds

  join_sourced : (a b : List Declaration) → AreSourced a → AreSourced b → AreSourced (a ++ b)
  join_sourced a b h k = all_behind IsSourced a b h k

  -- ---- what nothing is said of

  each_sourced : {A : Type 0} (one : ℕ → A → List Declaration)
      → ((k : ℕ) (x : A) → AreSourced (one k x)) → (k : ℕ) (xs : List A)
      → AreSourced (each one k xs)
  each_sourced one quiet k [] = tt
  each_sourced one quiet k (x ∷ xs) =
      join_sourced (one k x) (each one (k + 1) xs) (quiet k x) (each_sourced one quiet (k + 1) xs)

  oneofs_sourced : (path : List ℤ) (scope : Text) (file parent k : ℕ)
      (os : List OneofDescriptorProto)
      → AreSourced (each (one_oneof path scope file parent) k os)
  oneofs_sourced path scope file parent =
      each_sourced (one_oneof path scope file parent) (λ k o. (tt, tt))

  values_sourced : (path : List ℤ) (scope : Text) (file parent k : ℕ)
      (vs : List EnumValueDescriptorProto)
      → AreSourced (each (one_value path scope file parent) k vs)
  values_sourced path scope file parent =
      each_sourced (one_value path scope file parent) (λ k v. (tt, tt))

  methods_sourced : (path : List ℤ) (scope : Text) (file parent k : ℕ)
      (ms : List MethodDescriptorProto)
      → AreSourced (each (one_method path scope file parent) k ms)
  methods_sourced path scope file parent =
      each_sourced (one_method path scope file parent) (λ k m. (tt, tt))

  services_sourced : (scope : Text) (file n k : ℕ) (ss : List ServiceDescriptorProto)
      → AreSourced (each (one_service scope file n) k ss)
  services_sourced scope file n = each_sourced (one_service scope file n) (λ k s. (
    tt,
    methods_sourced (entry [] (pos 6) k) (join scope (text_of s.name)) file (n + k) 0
        s.method.items,
  ))

  -- ---- enums and extensions

  enums_sourced : (path : List ℤ) (tag : ℤ) (scope : Text) (file : ℕ) (parent : Option ℕ) (n k : ℕ)
      (es : List EnumDescriptorProto)
      → AllByRecursion HasSpelledValues (map enum_view es)
      → AreSourced (each (one_enum path tag scope file parent n) k es)
  enums_sourced path tag scope file parent n k [] h = tt
  enums_sourced path tag scope file parent n k (e ∷ es) h =
      join_sourced (one_enum path tag scope file parent n k e)
      (each (one_enum path tag scope file parent n) (k + 1) es)
      (h.0, values_sourced (entry path tag k) scope file (n + k) 0 e.value.items)
      (enums_sourced path tag scope file parent n (k + 1) es h.1)

  extensions_sourced : (path : List ℤ) (tag : ℤ) (scope : Text) (file : ℕ) (parent : Option ℕ)
      (n k : ℕ) (xs : List FieldDescriptorProto) → AreSpelled (map field_view xs)
      → IsNaming scope ⊎ (map field_view xs ≡ [])
      → AreSourced (each (one_extension path tag scope file parent n) k xs)
  extensions_sourced path tag scope file parent n k [] h naming = tt
  extensions_sourced path tag scope file parent n k (x ∷ xs) h (inr none) = absurd (cc none)
  extensions_sourced path tag scope file parent n k (x ∷ xs) h (inl naming) = (
    full_join scope (text_of x.name) naming (spelled_text x.name h.0),
    extensions_sourced path tag scope file parent n (k + 1) xs h.1 (inl naming),
  )

  -- ---- messages

  -- the fields of a message
  module _ (m : Declaration) (own : MessageParts) (here : Among m ds)
      (body : m.body ≡ of_message own)
      (placed : IsFileAt m.file) where
    fields_sourced : (path : List ℤ) (k : ℕ) (fs : List FieldDescriptorProto)
        → AreSpelled (map field_view fs)
        → AllByRecursion (λ (f : FieldDescriptorProto). IsGroup (field_view f) → IsGrouped m f) fs
        → AreSourced (each (one_field path m.name m.file m.index) k fs)
    fields_sourced path k [] h g = tt
    fields_sourced path k (f ∷ fs) h g = (
      record {
        outer = m;
        own = own;
        here = here;
        body = body;
        parent = refl;
        called = refl;
        file = refl;
        placed = placed;
        spelled = h.0;
        grouped = g.0;
      },
      fields_sourced path (k + 1) fs h.1 g.1,
    )

  groups_in : (m : Declaration) (sub : List Declaration) (nested : content.MessageContents)
      → ((t : Text) → Declares nested t → IsNestedIn sub m.name m.file t) → Inside sub
      → (fs : List FieldDescriptorProto)
      → AllByRecursion (λ (f : FieldDescriptorProto). IsGroup (field_view f)
      → IsGroupField nested (field_view f)) fs
      → AllByRecursion (λ (f : FieldDescriptorProto). IsGroup (field_view f) → IsGrouped m f) fs
  groups_in m sub nested there inside [] h = tt
  groups_in m sub nested there inside (f ∷ fs) h = (
    λ is.
        let group = h.0 is in
        let type = there group.type group.there in
        record {
          type = group.type;
          typed = group.typed;
          spelled = group.spelled;
          lower = group.lower;
          nested = record {
            declaration = type.declaration;
            own = type.own;
            here = inside type.declaration type.here;
            body = type.body;
            called = type.called;
            name = type.name;
            file = type.file;
          };
        },
    groups_in m sub nested there inside fs h.1,
  )

  mutual
    tree_sourced : (path : List ℤ) (scope : Text) (file : ℕ) (parent : Option ℕ) (o : Offsets)
        (m : Message) → IsSourceMessage (tree_content m) → IsNaming scope
        → IsScopeOf parent file scope → IsFileAt file
        → Inside (tree_declarations path scope file parent o m)
        → AreSourced (tree_declarations path scope file parent o m)
    tree_sourced path scope file parent o (message own nested) src naming scoped placed inside =
        let n = join scope (text_of own.name) in
        let up = Some o.messages in
        let here = message_declaration path n file parent o.messages own in
        let behind = past_trees (past_message o) nested in
        let fields = each (one_field path n file o.messages) 0 own.field in
        let inner = trees_declarations path (pos 3) n file up 0 (past_message o) nested in
        let enums = each (one_enum path (pos 4) n file up behind.enums) 0 own.enum_type in
        let extensions = each (one_extension path (pos 6) n file up behind.extensions) 0
        own.extension in
        let oneofs = each (one_oneof path n file o.messages) 0 own.oneof_decl in
        let others = enums ++ (extensions ++ oneofs) in
        let this : Among here ds = inside here (inl refl) in
        let within : Inside inner = λ x h.
        inside x (inr (in_second x fields (inner ++ others) (in_first x inner others h))) in
        let entry_is = IsEntry (option_map options_view own.options) in
        let groups = groups_in here inner (trees_content nested)
        (nested_there path (pos 3) n file up 0 (past_message o) nested) within own.field
        (all_mapped field_view
        (λ (f : content.FieldContent). IsGroup f → IsGroupField (trees_content nested) f) own.field
        src.0.groups) in (
          record {
            parts = src.0.parts;
            undotted = own_undotted entry_is own.name src.0.named;
            scope = scope;
            called = refl;
            scoped = scoped;
          },
          join_sourced fields (inner ++ others)
              (fields_sourced here own this refl placed path 0 own.field src.0.fields_are groups)
              (join_sourced inner others
              (trees_sourced path (pos 3) n file up 0 (past_message o) nested src.1
              (may_hold entry_is (trees_content nested ≡ content.no_messages) scope own.name naming
              src.0.named src.0.none_nested)
              (record {
                declaration = here;
                own = own;
                here = this;
                body = refl;
                index = refl;
                name = refl;
              }) placed within)
              (join_sourced enums (extensions ++ oneofs)
              (enums_sourced path (pos 4) n file up behind.enums 0 own.enum_type src.0.values)
              (join_sourced extensions oneofs
              (extensions_sourced path (pos 6) n file up behind.extensions 0 own.extension
              src.0.extensions_are
              (may_hold entry_is (map field_view own.extension ≡ []) scope own.name naming
              src.0.named src.0.none_extended))
              (oneofs_sourced path n file o.messages 0 own.oneof_decl)))),
        )

    trees_sourced : (path : List ℤ) (tag : ℤ) (scope : Text) (file : ℕ) (parent : Option ℕ) (k : ℕ)
        (o : Offsets) (ms : Messages) → AreSourceMessages (trees_content ms)
        → IsNaming scope ⊎ (trees_content ms ≡ content.no_messages)
        → IsScopeOf parent file scope → IsFileAt file
        → Inside (trees_declarations path tag scope file parent k o ms)
        → AreSourced (trees_declarations path tag scope file parent k o ms)
    trees_sourced path tag scope file parent k o no_messages src naming scoped placed inside = tt
    trees_sourced path tag scope file parent k o (more_messages m ms) src (inr none) scoped placed
        inside = absurd (cc none)
    trees_sourced path tag scope file parent k o (more_messages m ms) src (inl naming) scoped placed
        inside =
        let xs = tree_declarations (entry path tag k) scope file parent o m in
        let ys = trees_declarations path tag scope file parent (k + 1) (past_tree o m) ms in
        join_sourced xs ys
        (tree_sourced (entry path tag k) scope file parent o m src.0 naming scoped placed
        (λ x h. inside x (in_first x xs ys h)))
        (trees_sourced path tag scope file parent (k + 1) (past_tree o m) ms src.1 (inl naming)
        scoped placed (λ x h. inside x (in_second x xs ys h)))

  -- ---- files

  package_naming : (o : Option (String Global)) → IsPackage (text_view o) → IsNaming (text_of o)
  package_naming None h = inl refl
  package_naming (Some s) h = inr h

  file_sourced : (o : Offsets) (i : ℕ) (f : FileDescriptorProto) → IsSourceFile (file_view f)
      → (placed : IsFileAt i) → placed.own ≡ f → Inside (file_declarations o i f)
      → AreSourced (file_declarations o i f)
  file_sourced o i f src placed same inside =
      let n = text_of f.package in
      let past = past_trees o (trees_of f) in
      let inner = trees_declarations [] (pos 4) n i None 0 o (trees_of f) in
      let enums = each (one_enum [] (pos 5) n i None past.enums) 0 f.enum_type.items in
      let services = each (one_service n i o.services) 0 f.service.items in
      let extensions = each (one_extension [] (pos 7) n i None past.extensions) 0 f.extension.items
      in
      let others = enums ++ (services ++ extensions) in
      let naming = package_naming f.package src.packaged in (
        tt,
        join_sourced inner others
            (trees_sourced [] (pos 4) n i None 0 o (trees_of f)
            (subst AreSourceMessages (contents_are f.message_type.items) src.messages) (inl naming)
            (placed, ap (λ (g : FileDescriptorProto). text_of g.package) same) placed
            (λ x h. inside x (inr (in_first x inner others h))))
            (join_sourced enums (services ++ extensions)
            (enums_sourced [] (pos 5) n i None past.enums 0 f.enum_type.items src.enums)
            (join_sourced services extensions
            (services_sourced n i o.services 0 f.service.items)
            (extensions_sourced [] (pos 7) n i None past.extensions 0 f.extension.items
            src.extensions (inl naming)))),
      )

  files_sourced : (o : Offsets) (i j : ℕ) (gs : List FileDescriptorProto)
      → ((k : ℕ) (f : FileDescriptorProto) → slice_get gs k ≡ Some f
      → slice_get files (j + k) ≡ Some f) → i ≡ first + j
      → AllByRecursion (λ (f : FileDescriptorProto). IsSourceFile (file_view f)) gs
      → Inside (batch_declarations o i gs) → AreSourced (batch_declarations o i gs)
  files_sourced o i j [] at place all inside = tt
  files_sourced o i j (f ∷ gs) at place all inside =
      let xs = file_declarations o i f in
      let ys = batch_declarations (past_file o f) (i + 1) gs in
      let none : j + 0 ≡ j = omega arith in
      let placed : IsFileAt i = record {
        place = j;
        own = f;
        at = subst (λ n. slice_get files n ≡ Some f) none (at 0 f refl);
        index = place;
      } in
      join_sourced xs ys
      (file_sourced o i f all.0 placed refl (λ x h. inside x (in_first x xs ys h)))
      (files_sourced (past_file o f) (i + 1) (j + 1) gs
      (λ k g e. (let next : j + suc k ≡ j + 1 + k = omega arith in
      subst (λ n. slice_get files n ≡ Some g) next (at (suc k) g e)))
      (omega (arith, place)) all.1 (λ x h. inside x (in_second x xs ys h)))

-- so of each declaration of a batch
pub batch_sourced : (o : Offsets) (first : ℕ) (files : List FileDescriptorProto)
    → AllByRecursion (λ (f : FileDescriptorProto). IsSourceFile (file_view f)) files
    → (d : Declaration) → Among d (batch_declarations o first files)
    → IsSourced files first (batch_declarations o first files) d
batch_sourced o first files all d h =
    let ds = batch_declarations o first files in
    of_all (IsSourced files first ds) d ds
    (files_sourced files first ds o first 0 files
    (λ k f e. (let same : k ≡ 0 + k = omega arith in
    subst (λ n. slice_get files n ≡ Some f) same e)) (omega arith) all (λ x k. k)) h
