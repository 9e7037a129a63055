-- What a schema takes is not refused for its options: pools that the same files make say the same to texts, and read the same
-- options.
use Rattle.std.proofs.Common.{◌≡◌, ◌∙◌, ◌<◌, ◌++◌, ℕ, List, ◌∷◌, length, map, sym, ap, subst}
use Rattle.std.proofs.lemmas.List.{append_cancel_left, map-append}
use Rattle.descriptor_records.specs.Content.{FileContent, file_view}
use Rattle.descriptor_records.specs.declared.file.FileDescriptorProto.{FileDescriptorProto}
use Rattle.message_view.specs.Sound.{IsSound}
use Rattle.message_view.specs.Types.{name_at}
use Rattle.option_parts.specs.OptionTypes.{CanRead}
use Rattle.option_parts.specs.Places.{option_place}
use Rattle.option_parts.specs.TypedOptions.{typed_file}
use Rattle.option_parts.specs.declared.option_error.OptionError.{OptionError}
use Rattle.option_parts.specs.declared.option_scope.OptionScope.{OptionScope}
use Rattle.reflect_build.specs.Accepted.{FaultlessFiles}
use Rattle.reflect_build.specs.Refusals.{new_files}
use Rattle.reflect_options.specs.Settling.{RefusesFrom, SettlesPool}
use Rattle.reflect_tables.specs.Types.{PoolType}
use Rattle.schema_core.specs.Refusals.{FilesLinked, FilesRefused, IsPool, SetLinked, SetRefused, SourcesLinked, SourcesRefused}
use Rattle.schema_core.specs.declared.error.SchemaError.TheVariants.{Options}
use Rattle.schema_core.specs.declared.schema.Schema.{Schema}
use Rattle.schema_view.specs.Lawful.{Builds}
use Rattle.schema_view.proofs.Batches.{one_built}
use Rattle.schema_view.proofs.Road.{AreLinked, built_linked}
use Rattle.settled_view.specs.BuiltBut.{ChangesOptions}
use Rattle.settled_view.proofs.Built.{itself}
use Rattle.settled_view.proofs.Transfer.{pool_before}
use Rattle.stored_options.proofs.RefusedFiles.{pool_refused}
use Rattle.stored_options.proofs.TwinBatches.{linked_once, schema_once, twins_built}
use Rattle.stored_options.proofs.TwinPools.{AreTwinPools}
use Rattle.types_view.specs.Typed.{IsTyped}
use Rattle.types_view.proofs.Settled.{IsTypedMore, typed_more}
use Rattle.schema_laws.specs.Histories.{IsGrown, Sources}
use Rattle.schema_laws.specs.ToldMessages.{KeepAlike, TellsMessages}
use Rattle.schema_laws.proofs.Accepted.{accepted_tell}
use Rattle.schema_laws.proofs.Alike.{read_alike, unread}
use Rattle.schema_laws.proofs.Grown.{HasGrown, grown}
use Rattle.schema_laws.proofs.Histories.{one_list}
use Rattle.schema_laws.proofs.Linked.{linked_sound}
use Rattle.schema_laws.proofs.Numbers.{keep_linked, settled_keeps}
use Rattle.schema_laws.proofs.Stays.{settled_tells}
use Rattle.schema_laws.proofs.TakenOrRefused.{new_alike, one_files}

-- a pool that was settled and the one that it was before differ in the same
before : (linked new : PoolType) → ChangesOptions linked new → ChangesOptions new linked
before linked new s = record {
  settled = sym (ap (λ (p : PoolType). record p { records = linked.records }) s.settled);
  bare = sym s.bare;
}

-- ---- two pools that were built of the same batches, and have the same records

module _ (batches : List (List FileContent)) (p q : PoolType) (a : IsTyped batches p) (b : IsTyped batches q) (whole : IsPool p) (whole_too : IsPool q) (sound : IsSound p) (also : IsSound q)
    (same : map file_view p.records ≡ map file_view q.records) (tells : TellsMessages p) (tells_too : TellsMessages q) where
  abbrev here : PoolType
  here = a.but.linked

  abbrev there : PoolType
  there = b.but.linked

  linked : AreLinked (map file_view here.records)
  linked = built_linked batches (map file_view here.records) a.but.built.built

  -- as they were linked, messages of one name keep the same numbers
  linked_keep : KeepAlike there here
  linked_keep =
      keep_linked there here (settled_tells q there (before there q b.but.settles) tells_too) (settled_tells p here (before here p a.but.settles) tells) linked
      (sym (linked_once batches p q a b whole whole_too same))

  -- and as they are now
  keep : KeepAlike q p
  keep i k less near names keeps =
      settled_keeps here p a.but.settles k
      (linked_keep i k
      (subst (λ (r : PoolType). i < length r.messages) b.but.settles.settled less) (subst (λ (r : PoolType). k < length r.messages) a.but.settles.settled near)
      (sym (ap (λ r. name_at r i) b.but.settles.settled) ∙ names ∙ ap (λ r. name_at r k) a.but.settles.settled)
      (settled_keeps q there (before there q b.but.settles) i keeps))

  reads : (scope : OptionScope) → CanRead q scope → CanRead p scope
  reads scope can = read_alike q p also sound (sym (schema_once batches p q a b whole whole_too same unread)) keep scope can

-- they say the same to texts, and the one reads options where the other does
pub record AreMadeAlike (p q : PoolType) : Type 0 where
  pub twins : AreTwinPools p q
  pub same : map file_view p.records ≡ map file_view q.records
  pub reads : (scope : OptionScope) → CanRead p scope → CanRead q scope
  pub back : (scope : OptionScope) → CanRead q scope → CanRead p scope

made_alike : (batches : List (List FileContent)) (p q : PoolType) → IsTyped batches p → IsTyped batches q → IsPool p → IsPool q → IsSound p → IsSound q
    → map file_view p.records ≡ map file_view q.records → TellsMessages p → TellsMessages q → AreMadeAlike p q
made_alike batches p q a b whole whole_too sound also same tells tells_too = record {
  twins = twins_built batches p q a b whole whole_too same sound also;
  same = same;
  reads = reads batches q p b a whole_too whole also sound (sym same) tells_too tells;
  back = reads batches p q a b whole whole_too sound also same tells tells_too;
}

-- ---- two pools that files of one content make of one

module _ (old p q : PoolType) (g : HasGrown old) (fs gs : List FileDescriptorProto) (alike : map file_view gs ≡ map file_view fs) (faultless : FaultlessFiles old fs p) (faultless_too : FaultlessFiles old gs q)
    (whole : IsPool p) (whole_too : IsPool q) where
  more : IsTypedMore g.batches old g.typed p p fs
  more = typed_more g.batches old p p fs g.typed whole faultless (itself p)

  more_too : IsTypedMore g.batches old g.typed q q gs
  more_too = typed_more g.batches old q q gs g.typed whole_too faultless_too (itself q)

  abbrev batch : List FileContent
  batch = map file_view (new_files more.linking.indexes fs)

  one_batch : map file_view (new_files more_too.linking.indexes gs) ≡ batch
  one_batch = new_alike old more_too.linking more.linking more_too.of more.of gs fs alike

  built_too : IsTyped (batch ∷ g.batches) q
  built_too = subst (λ (b : List FileContent). IsTyped (b ∷ g.batches) q) one_batch more_too.typed

  abbrev were : List FileContent
  were = map file_view g.typed.but.linked.records

  -- the same records stand behind those that were there
  more_same : map file_view more.more ≡ map file_view more_too.more
  more_same =
      let first : map file_view more.typed.but.linked.records ≡ were ++ map file_view more.more = ap (map file_view) more.behind ∙ map-append file_view g.typed.but.linked.records more.more in
      let second : map file_view more_too.typed.but.linked.records ≡ were ++ map file_view more_too.more = ap (map file_view) more_too.behind ∙ map-append file_view g.typed.but.linked.records more_too.more in
      let one : map file_view more.typed.but.linked.records ≡ map file_view more_too.typed.but.linked.records =
      one_built (batch ∷ g.batches) (map file_view more.typed.but.linked.records) (map file_view more_too.typed.but.linked.records) more.typed.but.built.built
      (subst (λ (b : List FileContent). Builds (b ∷ g.batches) (map file_view more_too.typed.but.linked.records)) one_batch more_too.typed.but.built.built) in
      append_cancel_left were (map file_view more.more) (map file_view more_too.more) (sym first ∙ one ∙ second)

  records_same : map file_view p.records ≡ map file_view q.records
  records_same =
      ap (map file_view) more.beside ∙ map-append file_view old.records more.more
      ∙ ap (λ ms. map file_view old.records ++ ms) more_same
      ∙ sym (ap (map file_view) more_too.beside ∙ map-append file_view old.records more_too.more)

  pub made_behind : IsSound p → IsSound q → AreMadeAlike p q
  made_behind sound also =
      made_alike (batch ∷ g.batches) p q more.typed built_too whole whole_too sound also records_same (accepted_tell old p fs g.told faultless) (accepted_tell old q gs g.told faultless_too)

  -- where the options of the one are refused, those of the other are not settled
  pub not_settled_behind : IsSound p → IsSound q → (new : PoolType) (e : OptionError) → RefusesFrom p (length old.files) (option_place e) e.kind → SettlesPool q (length old.files) new → ⊥
  not_settled_behind sound also new e refuses settles =
      let made : AreMadeAlike p q = made_behind sound also in
      pool_refused p q new (length old.files) (option_place e) e.kind whole whole_too made.twins made.same made.back refuses settles

-- ---- files, sources, sets

-- of two lists of files of the same content not the one is taken and the other refused for its options
not_both : (old new : Schema) (fs gs : List FileDescriptorProto) (e : OptionError) → HasGrown old.pool → IsPool new.pool → map file_view fs ≡ map file_view gs
    → FilesLinked old.pool fs new.pool → FilesRefused old.pool gs (Options e) → ⊥
not_both old new fs gs e g whole same (q, (typed, copied, (adds, faultless, few)), settles, settled, bare) (p, (others, ones, (also, faulty, less)), is, sound, refuses) =
    let changes : ChangesOptions q new.pool = record { settled = settled; bare = bare } in
    let alike : map file_view typed ≡ map file_view others = copied ∙ ap (map typed_file) same ∙ sym ones in
    not_settled_behind old.pool p q g others typed alike faulty faultless is (pool_before q new.pool changes whole) sound (linked_sound q new.pool settled new.sound) new.pool e refuses settles

pub sources_taken : (old new : Schema) (given : Sources) (e : OptionError) → IsGrown old → IsPool new.pool → SourcesLinked old.pool given new.pool
    → SourcesRefused old.pool given (Options e) → ⊥
sources_taken old new given e was whole (files, are, linked) (others, also, refused) =
    not_both old new files others e (grown was.0 old was.1) whole (one_list given files others are also) linked refused

pub set_taken : (old new : Schema) (bytes : List ℕ) (e : OptionError) → IsGrown old → IsPool new.pool → SetLinked old.pool bytes new.pool
    → SetRefused old.pool bytes (Options e) → ⊥
set_taken old new bytes e was whole (files, are, linked) (others, also, refused) =
    not_both old new files others e (grown was.0 old was.1) whole (one_files bytes files others are also) linked refused
