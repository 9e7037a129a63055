-- What is known behind files in which no pass finds a fault, and which types stand where.
use Rattle.std.proofs.Common.{◌≡◌, inl, inr, ◌<◌, ◌+◌, ◌++◌, ℕ, zero, suc, true, false, List, [], ◌∷◌, map, length, Option, None, Some, is_some, String, Global, slice_get, slice_index_or, refl, sym, ap, ◌∙◌, subst, arith}
use Rattle.std.proofs.lemmas.Bool.{cases_lt}
use Rattle.std.proofs.lemmas.List.{map-append}
use Rattle.std.specs.List.{AllByRecursion}
use Rattle.descriptor_records.specs.Content.{Text}
use Rattle.descriptor_records.specs.declared.field.FieldDescriptorProto.{FieldDescriptorProto}
use Rattle.descriptor_records.specs.declared.file.FileDescriptorProto.{FileDescriptorProto}
use Rattle.reflect_scope.specs.declared.definition.Definition.{Definition}
use Rattle.reflect_scope.specs.declared.definition.DefinitionKind.TheVariants as kind
use Rattle.reflect_scope.specs.Known.{Known, is_package}
use Rattle.reflect_scope.specs.Means.{join, has_dot, outer}
use Rattle.reflect_declarations.specs.Batches.{batch_declarations}
use Rattle.reflect_declarations.specs.Declarations.{Declaration, of_message, of_field, file_declaration, file_declarations, past_file}
use Rattle.reflect_declarations.specs.Tree.{text_of, MessageParts}
use Rattle.reflect_declarations.specs.declared.offsets.Offsets.{Offsets}
use Rattle.reflect_known.specs.DeclaredNames.{with_names}
use Rattle.reflect_known.specs.KnownNames.{definition_of, package_of, known_behind, nothing_known, nothing_before, known_of_files}
use Rattle.reflect_faults.specs.Faults.{batch_places}
use Rattle.reflect_names.specs.FileNames.{with_files, files_faults}
use Rattle.reflect_names.specs.NamePass.{faults_along}
use Rattle.reflect_index.specs.DraftNames.{stored_message_name, stored_extension_name}
use Rattle.reflect_index.specs.declared.batch.Batch.{Batch}
use Rattle.reflect_passes.specs.NameFaults.{name_faults}
use Rattle.reflect_tables.specs.Names.{FullName, AreFound, found, place_in, names_of, message_name, extension_name, messages, extensions}
use Rattle.reflect_tables.specs.Types.{PoolType, MessageType, FileType, ArePooled, no_type, type_at}
use Rattle.reflect_tables.specs.Views.{file_of, record_of, record_file, message_of, extension_of}
use Rattle.reflect_tables.specs.Views as views
use Rattle.reflect_tables.specs.declared.stored.StoredFile.{StoredFile}
use Rattle.reflect_link.specs.FileTypes.{no_file, file_type_at}
use Rattle.reflect_build.specs.Accepted.{FaultlessBatch}
use Rattle.reflect_build.specs.Refusals.{Linking, with_declared, IsOf}
use Rattle.reflect_index.proofs.Among.{Among, of_all, in_second, get_at, get_map, got_map, index_is}
use Rattle.linked_view.proofs.Completes.{IsCompleteBody}
use Rattle.linked_view.proofs.Faults.{none_both}
use Rattle.linked_view.proofs.Found.{found_behind}
use Rattle.linked_view.proofs.Given.{Giving, known_by, Free, free_to}
use Rattle.linked_view.proofs.Named.{given, known_is_given}
use Rattle.linked_view.proofs.Walked.{seen_body}
use Rattle.linked_names.specs.SourcePools.{scope_in, scope_of, IsScoped}
use Rattle.linked_names.proofs.Apart.{IsApart, batch_apart}
use Rattle.linked_names.proofs.Dots.{outer_join}
use Rattle.linked_names.proofs.Known.{some_known, given_known, given_new, from_given, file_given, gives_name, in_gives, along_free, given_weight}
use Rattle.reflect_index.proofs.Behind.{index_none, get_in, mapped, which}

pub texts_same : (o : Option (String Global)) → views.text_of o ≡ text_of o
texts_same None = refl
texts_same (Some s) = refl

-- each file is declared
file_there : (o : Offsets) (i : ℕ) (fs : List FileDescriptorProto) (k : ℕ)
    (f : FileDescriptorProto) → slice_get fs k ≡ Some f
    → Among (file_declaration [] (i + k) f) (batch_declarations o i fs)
file_there o i [] k f e = absurd (cc e)
file_there o i (g ∷ fs) zero f e =
    let same : g ≡ f = cc e in
    let place : i ≡ i + 0 = omega arith in
    inl ((λ j. file_declaration [] (place j) (same j)))
file_there o i (g ∷ fs) (suc k) f e =
    let place : i + 1 + k ≡ i + suc k = omega arith in
    in_second (file_declaration [] (i + suc k) f) (file_declarations o i g)
    (batch_declarations (past_file o g) (i + 1) fs)
    (subst (λ n. Among (file_declaration [] n f) (batch_declarations (past_file o g) (i + 1) fs))
    place (file_there (past_file o g) (i + 1) fs k f e))

-- a definition of a message or of an extension has a place among those
message_place : (o : Option Definition) (n i : ℕ)
    → o ≡ Some (record { file = n; kind = kind.Message i })
    → place_in messages o ≡ Some (i, n)
message_place o n i e = ap (place_in messages) e

module _ (old new : PoolType) (ns : List FileDescriptorProto) (w : Linking) (is : IsOf old w)
    (pooled : ArePooled old) (names : name_faults w.indexes w.known w.before w.first ns ≡ [])
    (batch : FaultlessBatch (with_declared w ns) ns new) where
  abbrev pub ds : List Declaration
  ds = batch_declarations w.before w.first ns

  abbrev pub known : Known
  known = known_behind w.known ds

  abbrev pub b : Batch
  b = batch.types.new.now

  -- ---- names

  none : faults_along (batch_places ns w.first) (with_files w.indexes w.first ns) w.known ds ≡ []
  none = (none_both (files_faults (batch_places ns w.first) w.indexes w.first ns)
      (faults_along (batch_places ns w.first) (with_files w.indexes w.first ns) w.known ds)
      names).1

  wholes : AllByRecursion (λ (d : Declaration). IsCompleteBody (seen_body d.body)) ds
      × Free w.known (given ds)
  wholes = along_free (batch_places ns w.first) (with_files w.indexes w.first ns) w.known ds none

  complete : (x : Declaration) → Among x ds → IsCompleteBody (seen_body x.body)
  complete x h =
      of_all (λ (d : Declaration). IsCompleteBody (seen_body d.body)) x ds wholes.0 h

  known_as : known ≡ known_by w.known (given ds)
  known_as = known_is_given w.known ds

  pub are_apart : (d : Declaration) → Among d ds → IsApart d
  are_apart = batch_apart w.before w.first ns complete (λ n.
      let sum = given_weight n ds in
      let le = (free_to w.known (given ds) wholes.1 n).once in
      omega (arith, sum, le))

  -- a declaration is known for itself by its name, for which nothing was known before
  known_own : (d : Declaration) → Among d ds → is_some (seen_body d.body) ≡ true
      → known d.name ≡ Some (definition_of d)
  known_own d h seen =
      let own = gives_name d seen (complete d h) in
      let r = given_known w.known (given ds) (d.name, definition_of d) wholes.1
      (from_given ds d (d.name, definition_of d) h (in_gives d own)) in
      ap (λ (k : Known). k d.name) known_as ∙ r.1 ∙ ap Some (r.3 own.plain)

  known_new : (d : Declaration) → Among d ds → is_some (seen_body d.body) ≡ true
      → w.known d.name ≡ None
  known_new d h seen =
      let own = gives_name d seen (complete d h) in
      given_new w.known (given ds) (d.name, definition_of d) wholes.1
      (from_given ds d (d.name, definition_of d) h (in_gives d own)) own.plain

  pub message_known : (d : Declaration) (own : MessageParts) → Among d ds → d.body ≡ of_message own
      → known d.name ≡ Some (record { file = d.file; kind = kind.Message d.index })
  message_known d own h body =
      known_own d h (ap (λ b. is_some (seen_body b)) body)
      ∙ ap (λ b. Some (definition_of (record d { body = b }))) body

  pub field_known : (d : Declaration) (r : FieldDescriptorProto) → Among d ds
      → d.body ≡ of_field r
      → known d.name ≡ Some (record { file = d.file; kind = kind.Field })
  field_known d r h body =
      known_own d h (ap (λ b. is_some (seen_body b)) body)
      ∙ ap (λ b. Some (definition_of (record d { body = b }))) body

  field_new : (d : Declaration) (r : FieldDescriptorProto) → Among d ds → d.body ≡ of_field r
      → w.known d.name ≡ None
  field_new d r h body = known_new d h (ap (λ b. is_some (seen_body b)) body)

  -- ---- the places of names

  pub first_is : w.first ≡ length old.files
  first_is = is.first

  pub types_are : new.messages ≡ old.messages ++ map message_of b.messages.items
  types_are = batch.added.messages
      ∙ ap (λ (p : PoolType). p.messages ++ map message_of b.messages.items) is.tables

  pub extensions_are : new.extensions ≡ old.extensions ++ map extension_of b.extensions.items
  extensions_are = batch.added.extensions
      ∙ ap (λ (p : PoolType). p.extensions ++ map extension_of b.extensions.items) is.tables

  message_names : names_of old messages ++ with_names messages [] ds ≡ names_of new messages
  message_names =
      ap (λ l. names_of old messages ++ l) (sym batch.declared.messages
      ∙ sym (mapped message_name message_of stored_message_name (λ m. refl) b.messages.items))
      ∙ sym (ap (map message_name) types_are
      ∙ map-append message_name old.messages (map message_of b.messages.items))

  extension_names : names_of old extensions ++ with_names extensions [] ds ≡ names_of new extensions
  extension_names =
      ap (λ l. names_of old extensions ++ l) (sym batch.declared.extensions
      ∙ sym (mapped extension_name extension_of stored_extension_name (λ m. refl)
      b.extensions.items))
      ∙ sym (ap (map extension_name) extensions_are
      ∙ map-append extension_name old.extensions (map extension_of b.extensions.items))

  pub messages_found : AreFound (found messages known) (names_of new messages)
  messages_found = subst (AreFound (found messages known)) message_names
      (found_behind old ns w is pooled names messages)

  pub extensions_found : AreFound (found extensions known) (names_of new extensions)
  extensions_found = subst (AreFound (found extensions known)) extension_names
      (found_behind old ns w is pooled names extensions)

  -- ---- types by their names

  pub record IsTypeAt (i : ℕ) (s : Text) (n : ℕ) : Type 0 where
    pub there : i < length new.messages
    pub full : (type_at new i).full_name ≡ s
    pub file : (type_at new i).file ≡ n

  pub type_named : (i : ℕ) (s : Text) (n : ℕ) → slice_get (names_of new messages) i ≡ Some (s, n)
      → IsTypeAt i s n
  type_named i s n e =
      let m = got_map message_name new.messages i (s, n) e in
      let at : type_at new i ≡ m.0 = index_is new.messages i m.0 no_type m.1 in
      record {
        there = get_in new.messages i m.0 m.1;
        full = ap (λ (t : MessageType). t.full_name) at ∙ ap (λ (f : FullName). f.0) m.2;
        file = ap (λ (t : MessageType). t.file) at ∙ ap (λ (f : FullName). f.1) m.2;
      }

  named_type : (i : ℕ) → i < length new.messages
      → slice_get (names_of new messages) i ≡ Some ((type_at new i).full_name, (type_at new i).file)
  named_type i lt =
      get_map message_name new.messages i (type_at new i) (get_at new.messages i no_type lt)

  pub message_at : (d : Declaration) (own : MessageParts) → Among d ds → d.body ≡ of_message own
      → slice_get (names_of new messages) d.index ≡ Some (d.name, d.file)
  message_at d own h body =
      (messages_found d.name d.index d.file).0
      (message_place (known d.name) d.file d.index (message_known d own h body))

  -- messages of one index are one by name and file
  pub same_message : (d e : Declaration) (own also : MessageParts) → Among d ds
      → d.body ≡ of_message own → Among e ds → e.body ≡ of_message also → d.index ≡ e.index
      → (d.name ≡ e.name) × (d.file ≡ e.file)
  same_message d e own also h body k is index =
      let whole : Some (d.name, d.file) ≡ Some (e.name, e.file) =
      sym (message_at d own h body) ∙ ap (slice_get (names_of new messages)) index
      ∙ message_at e also k is in
      let pair : ◌≡◌ {A = FullName} (d.name, d.file) (e.name, e.file) = cc whole in
      (ap (λ (f : FullName). f.0) pair, ap (λ (f : FullName). f.1) pair)

  -- no type has the name of a field
  field_no_type : (d : Declaration) (r : FieldDescriptorProto) → Among d ds
      → d.body ≡ of_field r → (i n : ℕ)
      → slice_get (names_of new messages) i ≡ Some (d.name, n) → ⊥
  field_no_type d r h body i n e =
      cc (sym (ap (place_in messages) (field_known d r h body))
      ∙ (messages_found d.name i n).1 e)

  -- ---- files

  abbrev olds : List StoredFile
  olds = w.tables.files.items

  files_are : new.files ≡ map file_of olds ++ map record_file ns
  files_are = batch.added.files

  -- nor has a package the name of a field
  module _ (d : Declaration) (r : FieldDescriptorProto) (h : Among d ds)
      (body : d.body ≡ of_field r) where
    old_package : (k : ℕ) (x : StoredFile) → slice_get olds k ≡ Some x
        → text_of x.record.package ≡ d.name → (d.name ≡ [] → ⊥) → ⊥
    old_package k x at same some =
        let f = x.record in
        let fs = map record_of olds in
        let all = batch_declarations nothing_before 0 fs in
        let this = file_declaration [] (0 + k) f in
        let g : Giving = (text_of f.package, package_of (0 + k)) in
        let there = from_given all this g
        (file_there nothing_before 0 fs k f (get_map record_of olds k x at))
        (file_given this f refl (λ e. some (sym same ∙ e))) in
        let r = some_known nothing_known (given all) g there in
        let knows : w.known (text_of f.package) ≡ Some r.0 =
        ap (λ (k : Known). k (text_of f.package)) (is.known
        ∙ ap (λ (p : PoolType). known_of_files p.records) (sym is.tables)
        ∙ known_is_given nothing_known all) ∙ r.1 in
        cc (sym (field_new d _ h body) ∙ sym (ap w.known same) ∙ knows)

    new_package : (k : ℕ) (f : FileDescriptorProto) → slice_get ns k ≡ Some f
        → text_of f.package ≡ d.name → (d.name ≡ [] → ⊥) → ⊥
    new_package k f at same some =
        let this = file_declaration [] (w.first + k) f in
        let g : Giving = (text_of f.package, package_of (w.first + k)) in
        let there = from_given ds this g (file_there w.before w.first ns k f at)
        (file_given this f refl (λ e. some (sym same ∙ e))) in
        let r = given_known w.known (given ds) g wholes.1 there in
        let knows : known d.name ≡ Some r.0 =
        ap (λ (k : Known). k d.name) known_as
        ∙ sym (ap (known_by w.known (given ds)) same) ∙ r.1 in
        let field : Some r.0 ≡ Some (record { file = d.file; kind = kind.Field }) =
        sym knows ∙ field_known d _ h body in
        let own : r.0 ≡ record { file = d.file; kind = kind.Field } = cc field in
        cc (sym (ap (λ (e : Definition). is_package e.kind) own) ∙ r.2)

    field_no_package : (n : ℕ) → (file_type_at new n).package_name ≡ d.name
        → (d.name ≡ [] → ⊥) → ⊥
    field_no_package n same some =
        elim (which record_file (map file_of olds) new.files ns n no_file files_are) [
          | inl (lt, at) ↦ (
              let x = got_map file_of olds n (slice_index_or (map file_of olds) n no_file)
              (get_at (map file_of olds) n no_file lt) in
              old_package n x.0 x.1 (sym (texts_same x.0.record.package)
              ∙ ap (λ (t : FileType). t.package_name) (x.2 ∙ sym at) ∙ same) some)
          | inr (inl later) ↦ new_package later.place later.own later.at
              (sym (texts_same later.own.package)
              ∙ ap (λ (t : FileType). t.package_name) (sym later.is) ∙ same) some
          | inr (inr none) ↦ some (sym same ∙ ap (λ (t : FileType). t.package_name) none.1)
        ]

    -- so no type has a name in that of a field
    pub field_no_scope : ((i : ℕ) → i < length new.messages → IsScoped new (type_at new i))
        → (d.name ≡ [] → ⊥) → (t : Text) → has_dot t ≡ false → (i n : ℕ)
        → slice_get (names_of new messages) i ≡ Some (join d.name t, n) → ⊥
    field_no_scope scoped some t plain i n e =
        by (type_at new i).parent
        (sym (outer_join (scope_of new (type_at new i)) (type_at new i).name its.own)
        ∙ ap outer (sym its.full ∙ type.full) ∙ outer_join d.name t plain) where
          type : IsTypeAt i (join d.name t) n
          type = type_named i (join d.name t) n e

          its : IsScoped new (type_at new i)
          its = scoped i type.there

          by : (o : Option ℕ) → scope_in new o (type_at new i).file ≡ d.name → ⊥
          by None same = field_no_package (type_at new i).file same some
          by (Some p) same = elim (cases_lt p (length new.messages)) [
            | inl lt ↦ field_no_type d r h body p (type_at new p).file
                (named_type p lt ∙ ap (λ s. Some (s, (type_at new p).file)) same)
            | inr le ↦ some (sym same
                ∙ ap (λ (t : MessageType). t.full_name) (index_none new.messages p no_type le))
          ]
