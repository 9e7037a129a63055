-- A batch that is accepted keeps a pool's names apart, and as sources give them.
use Rattle.std.proofs.Common.{◌≡◌, [], ◌⊎◌, inl, inr, ◌<◌, ◌≤◌, ◌+◌, ◌++◌, ℕ, true, List, map, length, Option, Some, slice_index_or, sym, ap, ◌∙◌, subst, arith, refl, false, ℤ, slice_get}
use Rattle.std.specs.List.{AllByRecursion}
use Rattle.descriptor_records.specs.Content.{file_view}
use Rattle.descriptor_records.specs.declared.file.FileDescriptorProto.{FileDescriptorProto}
use Rattle.reflect_declarations.specs.Declarations.{Declaration}
use Rattle.reflect_passes.specs.NameFaults.{name_faults}
use Rattle.reflect_tables.specs.Names.{extension_name, extensions, found}
use Rattle.reflect_tables.specs.Types.{PoolType, FieldType, MessageType, EnumType, ExtensionType, ArePooled, no_type, no_enum, no_extension, type_at, type_of_field, enum_at, extension_at, KindType, no_field}
use Rattle.reflect_tables.specs.Types as types
use Rattle.reflect_tables.specs.declared.kind.Cardinality.{Cardinality}
use Rattle.reflect_tables.specs.declared.kind.Cardinality.TheVariants.{Optional, Required, Repeated}
use Rattle.reflect_tables.specs.declared.kind.Syntax.{Syntax}
use Rattle.reflect_fields.specs.Fields.{has_presence, label_of}
use Rattle.reflect_pool.specs.Shapes.{is_repeated}
use Rattle.reflect_message.specs.KindTypes.{IsMessageType}
use Rattle.reflect_tables.specs.Views.{message_of, enum_of, extension_of, record_file}
use Rattle.reflect_tables.specs.declared.stored.StoredEntry.{StoredEntry}
use Rattle.reflect_index.specs.declared.batch.Batch.{Batch}
use Rattle.reflect_pool.specs.Parts.{no_value}
use Rattle.reflect_build.specs.Accepted.{FaultlessBatch, FaultlessFiles}
use Rattle.reflect_build.specs.Refusals.{Linking, with_declared, IsOf, is_unknown, new_files}
use Rattle.text_model.specs.Identifiers.{is_identifier, is_full_name}
use Rattle.text_model.specs.Printed.{parts}
use Rattle.message_view.specs.Sound.{IsSound}
use Rattle.text_view.specs.SourceNames.{HaveOwnNames, IsGroupField, HasPartNames}
use Rattle.source_records.specs.SourceNames.{IsSourceFile}
use Rattle.reflect_index.proofs.Among.{Among, of_all, all_of, of_filter, of_place, in_map, get_at, get_map}
use Rattle.linked_names.specs.Presence.{HasMessagePresence, HasPresentMessages}
use Rattle.linked_names.specs.SourcePools.{IsScoped, IsSourcePool}
use Rattle.linked_names.proofs.Batch.{ds, known, types_are, extensions_are, extensions_found}
use Rattle.linked_names.proofs.Entries.{entry_named}
use Rattle.linked_names.proofs.Kept.{field_same, scope_stays, group_stays, parts_stay}
use Rattle.reflect_index.proofs.Behind.{which, IsLater}
use Rattle.reflect_index.proofs.Declared.{FieldDeclared, field_declared}
use Rattle.linked_names.proofs.Sourced.{IsSourced, batch_sourced}
use Rattle.linked_names.proofs.Stored.{names_apart, enum_of_batch, values_apart, new_scoped, field_spelled, group_spelled, value_spelled, extension_spelled}

pub single_present : (s : Syntax) (c : Cardinality) (k : KindType) (o : Option ℤ) → IsMessageType k
    → is_repeated c ≡ false → has_presence s c k o ≡ true
single_present s Optional (types.message i) o one single = refl
single_present s Required (types.message i) o one single = refl
single_present s Repeated (types.message i) o one single = absurd (cc single)
single_present s c k o one single = absurd one

module _ (old new : PoolType) (ns : List FileDescriptorProto) (w : Linking) (is : IsOf old w)
    (pooled : ArePooled old) (names : name_faults w.indexes w.known w.before w.first ns ≡ [])
    (batch : FaultlessBatch (with_declared w ns) ns new) where
  abbrev pub all : List Declaration
  all = ds old new ns w is pooled names batch

  abbrev pub b : Batch
  b = batch.types.new.now

  pub messages_are : new.messages ≡ old.messages ++ map message_of b.messages.items
  messages_are = types_are old new ns w is pooled names batch

  pub enums_are : new.enums ≡ old.enums ++ map enum_of b.enums.items
  enums_are = batch.added.enums
      ∙ ap (λ (p : PoolType). p.enums ++ map enum_of b.enums.items) is.tables

  pub files_are : new.files ≡ old.files ++ map record_file ns
  files_are = batch.added.files ∙ ap (λ (p : PoolType). p.files ++ map record_file ns) is.tables

  -- a type stands where it did, or is one of the batch
  abbrev pub TypeOf : ℕ → Type 0
  TypeOf i = ((i < length old.messages) × (type_at new i ≡ type_at old i))
      ⊎ (IsLater message_of old.messages b.messages.items i (type_at new i)
      ⊎ ((length new.messages ≤ i) × (type_at new i ≡ no_type)))

  pub which_type : (i : ℕ) → TypeOf i
  which_type i = which message_of old.messages new.messages b.messages.items i no_type messages_are

  abbrev EnumOf : ℕ → Type 0
  EnumOf i = ((i < length old.enums) × (enum_at new i ≡ enum_at old i))
      ⊎ (IsLater enum_of old.enums b.enums.items i (enum_at new i)
      ⊎ ((length new.enums ≤ i) × (enum_at new i ≡ no_enum)))

  which_enum : (i : ℕ) → EnumOf i
  which_enum i = which enum_of old.enums new.enums b.enums.items i no_enum enums_are

  pub no_field_there : (i j : ℕ) → type_at new i ≡ no_type → j < length (type_at new i).fields → ⊥
  no_field_there i j none lt =
      let zero = ap (λ (t : MessageType). length t.fields) none in omega (arith, lt, zero)

  -- ---- names that are apart

  abbrev AreApartIn : EnumType → Type 0
  AreApartIn e = (j k : ℕ) → j < length e.values → k < length e.values
      → (slice_index_or e.values j no_value).name ≡ (slice_index_or e.values k no_value).name
      → j ≡ k

  fields_apart : HaveOwnNames old → (i j k : ℕ) → j < length (type_at new i).fields
      → k < length (type_at new i).fields
      → (type_of_field new i j).name ≡ (type_of_field new i k).name → j ≡ k
  fields_apart own i j k lt less same = elim (which_type i) [
    | inl (here, type) ↦ (
        let at = λ (l : ℕ). ap (λ (f : FieldType). f.name)
        (field_same old new b (map record_file ns) pooled files_are messages_are enums_are i here l)
        in
        own.fields i j k
        (subst (λ (t : MessageType). j < length t.fields) type lt)
        (subst (λ (t : MessageType). k < length t.fields) type less)
        (sym (at j) ∙ same ∙ at k))
    | inr (inl later) ↦ names_apart old new ns w is pooled names batch i later.place later.own
        later.at later.is j k lt less same
    | inr (inr none) ↦ absurd (no_field_there i j none.1 lt)
  ]

  enum_apart : HaveOwnNames old → (i : ℕ) → AreApartIn (enum_at new i)
  enum_apart own i = elim (which_enum i) [
    | inl (here, same) ↦ subst AreApartIn (sym same) (own.values i)
    | inr (inl later) ↦ subst AreApartIn (sym later.is)
        (values_apart old new ns w is pooled names batch later.own
        (enum_of_batch old new ns w is pooled names batch later.place later.own later.at))
    | inr (inr none) ↦ subst AreApartIn (sym none.1) (λ j k lt less e. absurd (omega (arith, lt)))
  ]

  extension_found : (k : ℕ) → k < length new.extensions
      → found extensions (known old new ns w is pooled names batch)
      (extension_at new k).field.full_name ≡ Some (k, (extension_at new k).file)
  extension_found k lt =
      let x = extension_at new k in
      (extensions_found old new ns w is pooled names batch x.field.full_name k x.file).1
      (get_map extension_name new.extensions k x (get_at new.extensions k no_extension lt))

  first_of : (j k m n : ℕ) → ◌≡◌ {A = Option (ℕ × ℕ)} (Some (j, m)) (Some (k, n)) → j ≡ k
  first_of j k m n e = let pair : ◌≡◌ {A = ℕ × ℕ} (j, m) (k, n) = cc e in
      ap (λ (p : ℕ × ℕ). p.0) pair

  own_names : HaveOwnNames old → HaveOwnNames new
  own_names own = record {
    fields = fields_apart own;
    values = λ i j k lt less e. enum_apart own i j k lt less e;
    extensions = λ j k lt less e. first_of j k (extension_at new j).file (extension_at new k).file
        (sym (extension_found j lt)
        ∙ ap (found extensions (known old new ns w is pooled names batch)) e
        ∙ extension_found k less);
  }

  -- ---- fields

  -- a field of a type of the batch, by its declaration
  pub later_field : (i j : ℕ)
      → (later : IsLater message_of old.messages b.messages.items i (type_at new i))
      → j < length (type_at new i).fields
      → FieldDeclared batch.references all (w.before.messages + later.place) j (type_of_field new i j)
  later_field i j later lt =
      field_declared batch.references w.before w.first ns b batch.declared.entries
      later.place later.own j (type_of_field new i j) later.at
      (subst (λ (t : MessageType). slice_get t.fields j ≡ Some (type_of_field new i j))
      later.is (get_at (type_at new i).fields j no_field lt))

  -- what holds of the fields that the batch declares holds of all, if it did of those before
  each_field : (P : FieldType → Type 0) → ((i j : ℕ) (f : FieldType)
      → FieldDeclared batch.references all i j f → P f)
      → ((i j : ℕ) → j < length (type_at old i).fields → P (type_of_field old i j))
      → (i j : ℕ) → j < length (type_at new i).fields → P (type_of_field new i j)
  each_field P brings has i j lt = elim (which_type i) [
    | inl (here, type) ↦ subst P
        (sym (field_same old new b (map record_file ns) pooled files_are messages_are enums_are i here j))
        (has i j (subst (λ (t : MessageType). j < length t.fields) type lt))
    | inr (inl later) ↦ brings (w.before.messages + later.place) j (type_of_field new i j)
        (later_field i j later lt)
    | inr (inr none) ↦ absurd (no_field_there i j none.1 lt)
  ]

  -- ---- names as sources give them

  module _ (sourced : (d : Declaration) → Among d all → IsSourced ns w.first all d)
      (pool : IsSourcePool old) where
    scoped : (i : ℕ) → i < length new.messages → IsScoped new (type_at new i)
    scoped i lt = elim (which_type i) [
      | inl (here, same) ↦ scope_stays old new b (map record_file ns) pooled files_are messages_are
          enums_are i here (pool.scoped i here)
      | inr (inl later) ↦ subst (IsScoped new) (sym later.is)
          (new_scoped old new ns w is pooled names batch sourced later.place later.own later.at)
      | inr (inr none) ↦ (let le = none.0 in absurd (omega (arith, le, lt)))
    ]

    fields : (i j : ℕ) → j < length (type_at new i).fields
        → is_identifier (type_of_field new i j).name ≡ true
    fields i j lt = elim (which_type i) [
      | inl (here, type) ↦ ap (λ (f : FieldType). is_identifier f.name)
          (field_same old new b (map record_file ns) pooled files_are messages_are enums_are i here
          j)
          ∙ pool.names.fields i j (subst (λ (t : MessageType). j < length t.fields) type lt)
      | inr (inl later) ↦ field_spelled old new ns w is pooled names batch sourced i later.place
          later.own later.at later.is j lt
      | inr (inr none) ↦ absurd (no_field_there i j none.1 lt)
    ]

    abbrev AreSpelledIn : EnumType → Type 0
    AreSpelledIn e = (j : ℕ) → j < length e.values
        → is_identifier (slice_index_or e.values j no_value).name ≡ true

    values : (i : ℕ) → AreSpelledIn (enum_at new i)
    values i = elim (which_enum i) [
      | inl (here, same) ↦ subst AreSpelledIn (sym same) (pool.names.values i)
      | inr (inl later) ↦ subst AreSpelledIn (sym later.is)
          (value_spelled old new ns w is pooled names batch sourced later.own
          (enum_of_batch old new ns w is pooled names batch later.place later.own later.at))
      | inr (inr none) ↦ subst AreSpelledIn (sym none.1) (λ j lt. absurd (omega (arith, lt)))
    ]

    full_names : (k : ℕ) → k < length new.extensions
        → is_full_name (parts (extension_at new k).field.full_name) ≡ true
    full_names k lt =
        elim (which extension_of old.extensions new.extensions b.extensions.items k no_extension
        (extensions_are old new ns w is pooled names batch)) [
          | inl (here, same) ↦
              ap (λ (x : ExtensionType). is_full_name (parts x.field.full_name)) same
              ∙ pool.names.extensions k here
          | inr (inl later) ↦
              ap (λ (x : ExtensionType). is_full_name (parts x.field.full_name)) later.is
              ∙ extension_spelled old new ns w is pooled names batch sourced
              (extension_of later.own)
              (in_map extension_of later.own b.extensions.items
              (of_place later.own b.extensions.items later.place later.at))
          | inr (inr none) ↦ (let le = none.0 in absurd (omega (arith, le, lt)))
        ]

    groups : (i j : ℕ) → j < length (type_at new i).fields
        → (type_of_field new i j).group ≡ true → IsGroupField new i (type_of_field new i j)
    groups i j lt group = elim (which_type i) [
      | inl (here, type) ↦ (
          let less = subst (λ (t : MessageType). j < length t.fields) type lt in
          group_stays old new b (map record_file ns) pooled files_are messages_are enums_are i here
          j
          less (pool.names.groups i j less (sym (ap (λ (f : FieldType). f.group)
          (field_same old new b (map record_file ns) pooled files_are messages_are enums_are i here
          j)) ∙ group)))
      | inr (inl later) ↦ group_spelled old new ns w is pooled names batch sourced i later.place
          later.own later.at later.is scoped j lt group
      | inr (inr none) ↦ absurd (no_field_there i j none.1 lt)
    ]

    entries : (i : ℕ) (e : StoredEntry) → (type_at new i).entry ≡ Some e → HasPartNames new i e
    entries i e has = elim (which_type i) [
      | inl (here, type) ↦ parts_stay old new b (map record_file ns) pooled files_are messages_are
          enums_are i here e
          (pool.names.entries i e (sym (ap (λ (t : MessageType). t.entry) type) ∙ has))
      | inr (inl later) ↦ entry_named old new ns w is pooled names batch sourced i later.place
          later.own later.at later.is e has
      | inr (inr none) ↦
          absurd (cc (sym (ap (λ (t : MessageType). t.entry) none.1) ∙ has))
    ]

    source_pool : IsSourcePool new
    source_pool = record {
      scoped = scoped;
      names = record {
        distinct = own_names pool.names.distinct;
        fields = fields;
        values = λ i j lt. values i j lt;
        extensions = full_names;
        groups = groups;
        entries = entries;
      };
    }

pub accepted_apart : (old new : PoolType) (files : List FileDescriptorProto) → IsSound old
    → FaultlessFiles old files new → HaveOwnNames old → HaveOwnNames new
accepted_apart old new files sound (w, is, (names, batch)) own =
    own_names old new (new_files w.indexes files) w is sound.pooled names batch own

pub accepted_sources : (old new : PoolType) (files : List FileDescriptorProto) → IsSound old
    → FaultlessFiles old files new
    → AllByRecursion (λ (f : FileDescriptorProto). IsSourceFile (file_view f)) files
    → IsSourcePool old → IsSourcePool new
accepted_sources old new files sound (w, is, (names, batch)) sources pool =
    let ns = new_files w.indexes files in
    let IsSource = λ (f : FileDescriptorProto). IsSourceFile (file_view f) in
    source_pool old new ns w is sound.pooled names batch
    (batch_sourced w.before w.first ns (all_of IsSource ns (λ f h.
    of_all IsSource f files sources (of_filter (is_unknown w.indexes) f files h).0))) pool

pub accepted_present : (old new : PoolType) (files : List FileDescriptorProto) → IsSound old
    → FaultlessFiles old files new → HasPresentMessages old → HasPresentMessages new
accepted_present old new files sound (w, is, (names, batch)) has =
    each_field old new (new_files w.indexes files) w is sound.pooled names batch HasMessagePresence
    (λ i j f d one single. d.says.presence
    ∙ single_present d.met.hand.syntax (label_of d.own.label) d.holds d.own.oneof_index
    (subst IsMessageType d.says.says.kind one)
    (sym (ap is_repeated d.says.says.cardinality) ∙ single)) has
