-- A pool's entries of extensions stay those of its records where files are accepted.
use Rattle.std.proofs.Common.{◌≡◌, ◌∙◌, List, [], ◌∷◌, ◌++◌, map, ap, sym, subst}
use Rattle.std.specs.List.{AllZip, flat_map}
use Rattle.std.proofs.lemmas.List.{map-append}
use Rattle.std.proofs.lemmas.List.Concat.{flat_map-append}
use Rattle.descriptor_records.specs.Content.{FileContent, file_view}
use Rattle.descriptor_records.specs.declared.file.FileDescriptorProto.{FileDescriptorProto}
use Rattle.reflect_known.specs.GivenNames.{names_of_file}
use Rattle.reflect_known.specs.KnownNames.{nothing_known, nothing_before, known_of_files}
use Rattle.reflect_known.proofs.GivenNames.{known_told}
use Rattle.reflect_index.specs.Along.{before_files}
use Rattle.reflect_faults.specs.Faults.{batch_places}
use Rattle.reflect_passes.specs.NameFaults.{name_faults}
use Rattle.reflect_tables.specs.Names.{FullName, AreFound, found, message_name, names_of, messages}
use Rattle.reflect_tables.specs.Types.{PoolType, ExtensionType}
use Rattle.reflect_tables.specs.Views.{message_of, extension_of}
use Rattle.reflect_tables.proofs.Founds.{front}
use Rattle.reflect_build.proofs.Stored.{zip_both}
use Rattle.reflect_build.specs.Accepted.{FaultlessBatch, FaultlessFiles}
use Rattle.reflect_build.specs.Refusals.{Linking, with_declared, IsOf, new_files}
use Rattle.linked_view.specs.Kept.{IsKept}
use Rattle.schema_view.specs.Declarations.{declarations}
use Rattle.schema_view.specs.Lawful.{Meanings, all_linked}
use Rattle.linked_view.specs.Alone.{IsWellNamed}
use Rattle.linked_view.specs.Extended.{WrittenKey, keys_of, written_keys, IsIndexed, HasWritten, TellsExtensions}
use Rattle.linked_view.proofs.Accepted.{known_files, known_all, indexes, known, names_at, stand_linked}
use Rattle.linked_view.proofs.Extensions.{keys_zipped}
use Rattle.linked_view.proofs.Linked.{meanings}

pub zip_more : (names more : List FullName) (ks : List WrittenKey) (xs : List ExtensionType)
    → AllZip (HasWritten names) ks xs → AllZip (HasWritten (names ++ more)) ks xs
zip_more names more [] [] h = tt
zip_more names more [] (x ∷ xs) h = absurd h
zip_more names more (k ∷ ks) [] h = absurd h
zip_more names more (k ∷ ks) (x ∷ xs) h = (
  record {
    full = h.0.full;
    file = h.0.file;
    extendee = h.0.extendee;
    message = front names more x.extendee (h.0.full, h.0.file) h.0.message;
    number = h.0.number;
  },
  zip_more names more ks xs h.1,
)

module _ (old new : PoolType) (ns : List FileDescriptorProto) (w : Linking) (is : IsOf old w)
    (has : IsWellNamed old) (names : name_faults w.indexes w.known w.before w.first ns ≡ [])
    (batch : FaultlessBatch (with_declared w ns) ns new) (kept : IsKept new) where
  -- what the batch's names are known for is what the new records make known
  pub known_new : known_of_files new.records ≡ known old new ns w is has names batch kept
  known_new =
      ap known_of_files (batch.added.records.records
      ∙ ap (λ (p : PoolType). p.records ++ batch.added.records.more) is.tables)
      ∙ known_told nothing_known nothing_before 0 (old.records ++ batch.added.records.more)
      (old.records ++ ns)
      (map-append names_of_file old.records batch.added.records.more
      ∙ ap (λ xs. map names_of_file old.records ++ xs) batch.added.records.names
      ∙ sym (map-append names_of_file old.records ns))
      ∙ sym (known_files old new ns w is has names batch kept)

module _ (old new : PoolType) (ns : List FileDescriptorProto) (w : Linking) (is : IsOf old w)
    (has : IsWellNamed old) (names : name_faults w.indexes w.known w.before w.first ns ≡ [])
    (batch : FaultlessBatch (with_declared w ns) ns new) (kept : IsKept new) (index : IsIndexed new)
    (tells : TellsExtensions old) where
  abbrev given : List FileContent
  given = map file_view old.records

  abbrev more : List FileContent
  more = map file_view ns

  abbrev named : List FullName
  named = names_of new messages

  abbrev meant : Meanings
  meant = meanings (old.records ++ ns) (known old new ns w is has names batch kept)
      (known_all old new ns w is has names batch kept)
      (indexes old new ns w is has names batch kept) batch.means.right.sees

  are_found : AreFound (found messages (known old new ns w is has names batch kept)) named
  are_found = subst (λ k. AreFound (found messages k) named)
      (known_new old new ns w is has names batch kept) (index.named.found messages)

  all_names : named ≡ names_of old messages
      ++ map message_name (map message_of batch.types.new.now.messages.items)
  all_names =
      ap (map message_name) (batch.added.messages
      ∙ ap (λ (p : PoolType). p.messages ++ map message_of batch.types.new.now.messages.items)
      is.tables)
      ∙ map-append message_name old.messages (map message_of batch.types.new.now.messages.items)

  before_zipped : AllZip (HasWritten named) (written_keys given) old.extensions
  before_zipped = subst (λ ms. AllZip (HasWritten ms) (written_keys given) old.extensions)
      (sym all_names)
      (zip_more (names_of old messages) _ (written_keys given) old.extensions tells)

  batch_zipped : AllZip (HasWritten named)
      (written_keys (all_linked meant more))
      (map extension_of batch.types.new.now.extensions.items)
  batch_zipped =
      keys_zipped (old.records ++ ns) (known old new ns w is has names batch kept)
      (known_all old new ns w is has names batch kept)
      (indexes old new ns w is has names batch kept) batch.means.right.sees w.before w.first ns
      (names_at old new ns w is has names batch kept) named are_found (batch_places ns w.first)
      (before_files batch.references) (map extension_of batch.types.new.now.extensions.items)
      (sym batch.means.right.faults) batch.means.right.targets batch.declared.entries.extensions

  pub tells_new : TellsExtensions new
  tells_new =
      let keys : written_keys (map file_view new.records)
      ≡ written_keys given ++ written_keys (all_linked meant more) =
      ap written_keys (stand_linked old new ns w is has names batch kept)
      ∙ flat_map-append (λ f. flat_map keys_of (declarations f)) given (all_linked meant more) in
      let entries : new.extensions
      ≡ old.extensions ++ map extension_of batch.types.new.now.extensions.items =
      batch.added.extensions
      ∙ ap (λ (p : PoolType). p.extensions ++ map extension_of batch.types.new.now.extensions.items)
      is.tables in
      subst (λ ks. AllZip (HasWritten named) ks new.extensions) (sym keys)
      (subst (AllZip (HasWritten named)
      (written_keys given ++ written_keys (all_linked meant more))) (sym entries)
      (zip_both (HasWritten named) (written_keys given) (written_keys (all_linked meant more))
      old.extensions (map extension_of batch.types.new.now.extensions.items)
      before_zipped batch_zipped))

pub pool_tells : (old new : PoolType) (fs : List FileDescriptorProto) → IsWellNamed old
    → IsIndexed new → IsKept new → TellsExtensions old → FaultlessFiles old fs new
    → TellsExtensions new
pool_tells old new fs has index kept tells (w, is, (names, batch)) =
    tells_new old new (new_files w.indexes fs) w is has names batch kept index tells
