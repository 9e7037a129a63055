-- Schemas that sources made came about batch by batch.
use Rattle.std.proofs.Common.{◌≡◌, ◌∙◌, List, [], ◌∷◌, map, ap, refl, sym, subst}
use Rattle.std.specs.List.{filter}
use Rattle.descriptor_records.specs.Content.{FileContent, file_view}
use Rattle.descriptor_records.specs.declared.file.FileDescriptorProto.{FileDescriptorProto}
use Rattle.linked_names.specs.SourcePools.{IsSourcePool}
use Rattle.settled_records.proofs.Typed.{typed_given}
use Rattle.option_parts.specs.TypedOptions.{TypedFiles, typed_file}
use Rattle.protox_laws.proofs.Sources.{same_record}
use Rattle.reflect_build.specs.Refusals.{IsOf, Linking, new_files}
use Rattle.reflect_build.proofs.Parted.{one_new}
use Rattle.reflect_pool.specs.Linked.{empty_pool}
use Rattle.reflect_tables.specs.Types.{PoolType}
use Rattle.types_view.proofs.Pools.{empty_sound}
use Rattle.schema_core.specs.Refusals.{AreFilesOf, IsPool, SourcesLinked}
use Rattle.schema_core.specs.declared.schema.Schema.{Schema}
use Rattle.schema_laws.specs.Histories.{AreNewFilesOf, BatchLinked, IsMadeBy, Sources}
use Rattle.schema_laws.specs.SameSources.{given_in}
use Rattle.schema_laws.proofs.BatchFiles.{AddsBatch, CameAbout, came_more, none_came}
use Rattle.schema_laws.proofs.Naming.{named_by_sources}
use Rattle.schema_laws.proofs.NewFiles.{lacks, new_seen}
use Rattle.schema_laws.proofs.SourceFiles.{options_of}

-- ---- sources are one list of new files

pub one_list : (sources : Sources) (fs gs : List FileDescriptorProto) → AreFilesOf sources fs → AreFilesOf sources gs → map file_view fs ≡ map file_view gs
one_list [] [] [] are also = refl
one_list [] [] (g ∷ gs) are also = absurd also
one_list [] (f ∷ fs) gs are also = absurd are
one_list (s ∷ ss) [] gs are also = absurd are
one_list (s ∷ ss) (f ∷ fs) [] are also = absurd also
one_list (s ∷ ss) (f ∷ fs) (g ∷ gs) are also =
    let first : file_view f ≡ file_view g = same_record s.0 s.1 f g are.0 also.0 in
    let rest : map file_view fs ≡ map file_view gs = one_list ss fs gs are.1 also.1 in
    cc (first, rest)

one_batch : (p : PoolType) (sources : Sources) (files typed : List FileDescriptorProto) (w : Linking) (batch : List FileContent)
    → AreFilesOf sources files → TypedFiles files typed → IsOf p w → AreNewFilesOf p sources batch → map file_view (new_files w.indexes typed) ≡ batch
one_batch p sources files typed w batch are copied of (others, ones, v, also, same, its, is) =
    let seen : map file_view typed ≡ map file_view ones = copied ∙ ap (map typed_file) (one_list sources files others are also) ∙ sym same in
    new_seen w.indexes typed ∙ ap (filter (lacks w.indexes)) seen ∙ sym (new_seen w.indexes ones)
    ∙ ap (map file_view) (one_new p w v ones of its) ∙ is

-- ---- one batch

adds_batch : (old new : Schema) (batch : List FileContent) → IsSourcePool old.pool → BatchLinked old.pool batch new.pool → IsPool new.pool → AddsBatch old.pool new.pool batch
adds_batch old new batch named add pool = by add.linked
  where
    by : SourcesLinked old.pool add.given new.pool → AddsBatch old.pool new.pool batch
    by (files, read, (linked, (typed, copied, (adds, faultless, few)), settles, settled, bare)) = record {
      linked = linked;
      typed = typed;
      faultless = faultless;
      added = one_batch old.pool add.given files typed faultless.0 batch read copied faultless.1 add.files;
      given = typed_given files typed (options_of add.given files read) copied;
      settles = settles;
      changes = record { settled = settled; bare = bare };
      is = pool;
      sound = new.sound;
      named = named_by_sources old.pool new.pool add.given old.sound add.linked named;
    }

-- ---- all of them

pub came_about : (batches : List (List FileContent)) (s : Schema) → IsMadeBy BatchLinked batches s → CameAbout batches s.pool
came_about [] s is = subst (CameAbout []) (sym is) none_came
came_about (last ∷ earlier) s (old, before, add, pool) =
    let was = came_about earlier old before in
    came_more earlier last old.pool s.pool was (adds_batch old s last was.named add pool)

-- ---- sources that a schema takes are a batch

pub new_batch : (old new : PoolType) (given : Sources) → SourcesLinked old given new → (batch : List FileContent) × AreNewFilesOf old given batch
new_batch old new given (files, read, (linked, (typed, copied, (adds, faultless, few)), settles, settled, bare)) =
    (map file_view (new_files faultless.0.indexes typed), (files, typed, faultless.0, read, copied, faultless.1, refl))

-- so each schema that sources made has a history, in which they are those that were given
pub history_of : (batches : List Sources) (s : Schema) → IsMadeBy SourcesLinked batches s
    → (fs : List (List FileContent)) × (made : IsMadeBy BatchLinked fs s) × (given_in fs s made ≡ batches)
history_of [] s made = ([], made, refl)
history_of (last ∷ earlier) s (old, before, linked, pool) =
    let was : (fs : List (List FileContent)) × (made : IsMadeBy BatchLinked fs old) × (given_in fs old made ≡ earlier) = history_of earlier old before in
    let b : (batch : List FileContent) × AreNewFilesOf old.pool last batch = new_batch old.pool s.pool last linked in
    let add : BatchLinked old.pool b.0 s.pool = record { given = last; linked = linked; files = b.1 } in
    (b.0 ∷ was.0, (old, was.1, add, pool), ap (λ (bs : List Sources). last ∷ bs) was.2)

-- a schema without files, before the first
abbrev pub without_files : Schema → Schema
without_files s = record { alloc = s.alloc; pool = empty_pool; sound = empty_sound }
