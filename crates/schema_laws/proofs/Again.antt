-- The records of a pool that sources made, added to a pool without files, link and settle to themselves.
use Rattle.std.proofs.Common.{◌≡◌, ◌++◌, ℕ, List, [], ◌∷◌, map, true, cond, Option, Some, None, slice_get, inl, inr, ap, refl, sym, subst, ◌∙◌, String, Global, not, is_some, string_bytes}
use Rattle.std.specs.List.{AllByRecursion}
use Rattle.descriptor_records.specs.Content.{FileContent, OptionsContent, file_view, options_view}
use Rattle.descriptor_records.specs.declared.file.FileDescriptorProto.{FileDescriptorProto}
use Rattle.descriptor_records.specs.declared.options.Options.{Options}
use Rattle.texts_view.specs.ReadOptions.{read_file}
use Rattle.texts_view.proofs.Alike.{only_stand}
use Rattle.texts_view.proofs.ReadNames.{names_alike}
use Rattle.texts_view.proofs.ReadTypes.{types_alike}
use Rattle.linked_view.proofs.Completes.{all_mapped}
use Rattle.message_view.specs.Sound.{IsSound}
use Rattle.message_view.specs.Types.{types_of}
use Rattle.option_parts.specs.OptionTypes.{CanRead}
use Rattle.option_parts.specs.TypedOptions.{TypedFiles}
use Rattle.option_parts.specs.declared.option_scope.OptionScope.{OptionScope}
use Rattle.plain_records.specs.PlainRecords.{ArePlainFiles, IsPlainFile}
use Rattle.plain_records.specs.SaidOptions.{SaysAndIsSettled}
use Rattle.plain_records.specs.SaidOptions as options
use Rattle.plain_records.proofs.Both.{files_both, files_weaker}
use Rattle.reflect_build.specs.Accepted.{FaultlessFiles}
use Rattle.reflect_build.specs.Refusals.{IsOf, Linking, new_files}
use Rattle.reflect_options.specs.Entities.{Entity, file_entities}
use Rattle.reflect_options.specs.Settling.{SettlesPool}
use Rattle.reflect_pool.proofs.Grown.{all_through}
use Rattle.reflect_pool.proofs.Places.{all_get}
use Rattle.reflect_pool.specs.Linked.{empty_pool}
use Rattle.reflect_tables.specs.Types.{IsSettled, PoolType}
use Rattle.reflect_wire.specs.Written.{AreBytes}
use Rattle.schema_view.specs.Lawful.{AddsLawful}
use Rattle.settled_records.proofs.OfEntities.{Meets}
use Rattle.settled_records.proofs.PlainOptions.{said}
use Rattle.settled_records.specs.Themselves.{SettlesToItself}
use Rattle.settled_records.proofs.Themselves.{pool_stays}
use Rattle.settled_view.specs.BuiltBut.{ChangesOptions}
use Rattle.protobuf_model.specs.Types.{Name}
use Rattle.stored_options.specs.StoredOptions.{AreStored}
use Rattle.stored_options.proofs.Again.{settled_again}
use Rattle.stored_options.proofs.Later.{stored_later}
use Rattle.protobuf_model.specs.Values.{Message}
use Rattle.text_view.specs.Schemas.{schema_of}
use Rattle.texts_view.proofs.Settled.{settled_names}
use Rattle.types_view.specs.Pools.{IsKept, IsPool}
use Rattle.types_view.specs.Typed.{IsTyped}
use Rattle.types_view.proofs.Settled.{IsTypedMore, empty_typed, settled_types, typed_more}
use Rattle.schema_laws.proofs.Linked.{linked_sound}
use Rattle.schema_laws.proofs.Said.{entities_say, type_of_scope}
use Rattle.schema_laws.proofs.TypedAgain.{typed_again}
use Rattle.schema_laws.specs.HeldOptions.{AreHeld, HasType, HoldsOptions, ReadsAlike}

-- ---- a pool without files
-- has none of the files yet
no_index : (w : Linking) → IsOf empty_pool w → (name : List ℕ) → w.indexes name ≡ None
no_index w of name = by (w.indexes name) refl
  where
    by : (o : Option ℕ) → w.indexes name ≡ o → o ≡ None
    by None e = refl
    by (Some i) e = absurd (cc ((of.files name i).0 e))

pub all_new : (w : Linking) → IsOf empty_pool w → (fs : List FileDescriptorProto) → new_files w.indexes fs ≡ fs
all_new w of [] = refl
all_new w of (f ∷ fs) =
    ap (λ b. cond b (f ∷ new_files w.indexes fs) (new_files w.indexes fs)) (by f.name) ∙ ap (λ gs. f ∷ gs) (all_new w of fs)
  where
    by : (name : Option (String Global)) → elim name [ None ↦ true | Some s ↦ not (is_some (w.indexes (string_bytes s))) ] ≡ true
    by None = refl
    by (Some s) = ap (λ o. not (is_some o)) (no_index w of (string_bytes s))

-- what is said of all options of the records of such a pool
abbrev pub Keeps : PoolType → OptionScope → OptionsContent → Type 0
Keeps p scope o = AreHeld p scope o × (AreBytes o.encoded × SaysAndIsSettled scope o)

-- nothing is linked into it
none_mapped : (fs : List FileDescriptorProto) → map file_view fs ≡ [] → fs ≡ []
none_mapped [] e = refl
none_mapped (f ∷ fs) e = absurd (cc e)

pub none_linked : empty_typed.but.linked.records ≡ []
none_linked = none_mapped empty_typed.but.linked.records empty_typed.but.built.built

-- ---- records that link and settle to themselves
module _ (batches : List (List FileContent)) (p : PoolType) (t : IsTyped batches p) (kept : IsKept p) (plain : ArePlainFiles SaysAndIsSettled (map file_view p.records))
    (alike : ReadsAlike t.but.linked p) (linked new : PoolType) (files typed : List FileDescriptorProto) (same : map file_view files ≡ map file_view p.records) (copied : TypedFiles files typed)
    (more : IsTypedMore [] empty_pool empty_typed linked new typed) (settled : IsSettled linked new) (also : IsKept new) where
  abbrev records : List FileContent
  records = map file_view p.records

  -- nothing is copied
  typed_same : map file_view typed ≡ records
  typed_same =
      typed_again files typed (subst (ArePlainFiles (λ scope o. options.IsSettled o)) (sym same) (files_weaker SaysAndIsSettled (λ scope o. options.IsSettled o) (λ scope o says. says.1) records plain)) copied ∙ same

  -- the pool that linking made is the one that the files build
  linked_records : more.typed.but.linked.records ≡ linked.records
  linked_records = more.behind ∙ ap (λ rs. rs ++ more.more) none_linked ∙ sym more.beside

  adds : AddsLawful [] (map file_view typed) (map file_view linked.records)
  adds =
      let built = more.typed.but.built.built in
      subst (λ gs. AddsLawful [] gs (map file_view linked.records)) (ap (map file_view) (all_new more.linking more.of typed))
      (subst (λ gs. AddsLawful [] (map file_view (new_files more.linking.indexes typed)) (map file_view gs)) linked_records
      (subst (λ gs. AddsLawful gs (map file_view (new_files more.linking.indexes typed)) (map file_view more.typed.but.linked.records)) built.1 built.2))

  pub linked_same : map file_view linked.records ≡ records
  linked_same =
      only_stand batches (map file_view t.but.linked.records) (map file_view typed) (map file_view linked.records) t.but.built.built (ap (map read_file) typed_same ∙ alike) adds ∙ typed_same

  -- linking reads of it what it read of the files that the batches built
  reads_same : map read_file (map file_view more.typed.but.linked.records) ≡ map read_file (map file_view t.but.linked.records)
  reads_same = ap (λ gs. map read_file (map file_view gs)) linked_records ∙ ap (map read_file) linked_same ∙ alike

  types_same : types_of new ≡ types_of p
  types_same =
      settled_types _ new more.typed also ∙ types_alike (map file_view more.typed.but.linked.records) (map file_view t.but.linked.records) reads_same ∙ sym (settled_types batches p t kept)

  names_same : (decoded : Name → List ℕ → Option Message) → schema_of new decoded ≡ schema_of p decoded
  names_same decoded =
      settled_names _ new more.typed also decoded ∙ names_alike (map file_view more.typed.but.linked.records) (map file_view t.but.linked.records) decoded reads_same
      ∙ sym (settled_names batches p t kept decoded)

  -- a pool has its types whatever options its records have
  linked_types : types_of linked ≡ types_of p
  linked_types = sym (ap types_of settled) ∙ types_same

  -- ---- options
  module _ (held : HoldsOptions p) (bytes : ArePlainFiles (λ scope o. AreBytes o.encoded) records) where
    all_keep : ArePlainFiles (Keeps p) (map file_view linked.records)
    all_keep =
        let both = files_both (λ scope o. AreBytes o.encoded) SaysAndIsSettled (λ scope o. AreBytes o.encoded × SaysAndIsSettled scope o) (λ scope o b s. (b, s)) records bytes plain in
        subst (ArePlainFiles (Keeps p)) (sym linked_same) (files_both (AreHeld p) (λ scope o. AreBytes o.encoded × SaysAndIsSettled scope o) (Keeps p) (λ scope o h b. (h, b)) records held both)

    entities_keep : (k : ℕ) (f : FileDescriptorProto) → slice_get linked.records k ≡ Some f → AllByRecursion (Meets (λ file. said (Keeps p))) (file_entities k f)
    entities_keep k f there =
        entities_say (Keeps p) k f (all_get (λ f. IsPlainFile (Keeps p) 99 (file_view f)) linked.records k f (all_mapped file_view (IsPlainFile (Keeps p) 99) linked.records all_keep) there)

    -- in a sound pool that has types to read options by
    module _ (sound : IsSound linked) (can : (scope : OptionScope) → CanRead linked scope) where
      -- options of an entity, where the pool has a type for them, are stored
      are_stored : (scope : OptionScope) (o : Options) → Keeps p scope (options_view o) → HasType linked scope → (m : Message) × AreStored (types_of linked) scope m o.encoded.items
      are_stored scope o keeps has = elim (keeps.0 keeps.1.0) [
        | inl stored ↦ (stored.1.0, subst (λ types. AreStored types scope stored.1.0 o.encoded.items) (sym linked_types) stored.1.1)
        | inr given ↦ stored_later scope linked o sound (has.0, has.1, can scope has.0 has.1) given.0.0 given.1
      ]

      itself : (c : Entity) → Meets (λ file. said (Keeps p)) c → SettlesToItself linked c
      itself c meets s o out paths there is settle =
          let keeps = meets o there in
          let stored = are_stored c.scope o keeps (type_of_scope linked c.scope s is settle.1.0 settle.1.1) in
          settled_again c.scope s o out paths stored.0 (subst IsSound (sym is) sound) (subst (λ p. CanRead p c.scope) (sym is) (can c.scope)) keeps.1.0
          (subst (λ p. AreStored (types_of p) c.scope stored.0 o.encoded.items) (sym is) stored.1) keeps.1.1 settle

      settled_same : SettlesPool linked 0 new → map file_view new.records ≡ records
      settled_same settles =
          pool_stays linked 0 new
          (λ k f there far. all_through (Meets (λ file. said (Keeps p))) (SettlesToItself linked) (file_entities k f) itself (entities_keep k f there)) settles
          ∙ linked_same

-- ---- so it is where files are accepted and settled
module _ (batches : List (List FileContent)) (p linked new : PoolType) (files typed : List FileDescriptorProto) (t : IsTyped batches p) (kept : IsKept p)
    (plain : ArePlainFiles SaysAndIsSettled (map file_view p.records)) (alike : ReadsAlike t.but.linked p) (same : map file_view files ≡ map file_view p.records) (copied : TypedFiles files typed)
    (faultless : FaultlessFiles empty_pool typed linked) (changes : ChangesOptions linked new) (whole : IsPool new) where
  more_typed : IsTypedMore [] empty_pool empty_typed linked new typed
  more_typed = typed_more [] empty_pool linked new typed empty_typed whole faultless changes

  pub types_again : types_of new ≡ types_of p
  types_again = types_same batches p t kept plain alike linked new files typed same copied more_typed changes.settled whole.kept

  pub names_again : (decoded : Name → List ℕ → Option Message) → schema_of new decoded ≡ schema_of p decoded
  names_again = names_same batches p t kept plain alike linked new files typed same copied more_typed changes.settled whole.kept

  pub entities_again : HoldsOptions p → ArePlainFiles (λ scope o. AreBytes o.encoded) (map file_view p.records) → (k : ℕ) (f : FileDescriptorProto) → slice_get linked.records k ≡ Some f
      → AllByRecursion (Meets (λ file. said (Keeps p))) (file_entities k f)
  entities_again held bytes = entities_keep batches p t kept plain alike linked new files typed same copied more_typed changes.settled whole.kept held bytes

  pub records_again : HoldsOptions p → ArePlainFiles (λ scope o. AreBytes o.encoded) (map file_view p.records) → SettlesPool linked 0 new → IsSound new → map file_view new.records ≡ map file_view p.records
  records_again held bytes settles sound =
      settled_same batches p t kept plain alike linked new files typed same copied more_typed changes.settled whole.kept held bytes (linked_sound linked new changes.settled sound) settles.readable settles
