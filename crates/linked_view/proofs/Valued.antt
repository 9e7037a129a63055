-- A pool's entries of enums stay those of its records where files are accepted.
use Rattle.std.proofs.Common.{◌≡◌, ◌∙◌, List, [], ◌++◌, map, ap, sym, refl}
use Rattle.std.specs.List.{flat_map}
use Rattle.std.proofs.lemmas.List.{map-append}
use Rattle.std.proofs.lemmas.List.Concat.{flat_map-append}
use Rattle.descriptor_records.specs.Content.{file_view}
use Rattle.descriptor_records.specs.declared.file.FileDescriptorProto.{FileDescriptorProto}
use Rattle.reflect_index.specs.Along.{before_files}
use Rattle.reflect_names.specs.declared.resolve_visitor.Reference.{Reference}
use Rattle.reflect_passes.specs.NameFaults.{name_faults}
use Rattle.reflect_passes.specs.declared.linked_types.LinkedTypes.{LinkedTypes}
use Rattle.reflect_tables.specs.Types.{PoolType}
use Rattle.reflect_tables.specs.Views.{enum_of}
use Rattle.reflect_declarations.specs.Batches.{batch_declarations}
use Rattle.reflect_build.specs.Accepted.{FaultlessBatch, FaultlessFiles}
use Rattle.reflect_build.specs.Refusals.{AreTypes, Linking, with_declared, IsOf, new_files}
use Rattle.linked_view.specs.Kept.{IsKept}
use Rattle.schema_view.specs.Declarations.{declarations}
use Rattle.schema_view.specs.Lawful.{Meanings, all_linked}
use Rattle.schema_view.proofs.Renames.{map_same}
use Rattle.linked_view.specs.Alone.{IsWellNamed}
use Rattle.linked_view.specs.Valued.{values_in, written_values, kept_values, TellsValues}
use Rattle.linked_view.proofs.Accepted.{lawful_alone}
use Rattle.linked_view.proofs.Values.{values_kept, batch_values}

-- the entries of a pool's enums, and behind them those of a batch, are those of the linked records
pub all_values : (old : PoolType) (w : Linking) (ns : List FileDescriptorProto)
    (rs : List Reference) (t : LinkedTypes) (meanings : Meanings)
    → AreTypes (with_declared w ns) ns rs t → TellsValues old
    → map kept_values (old.enums ++ map enum_of t.new.now.enums.items)
    ≡ written_values (map file_view old.records ++ all_linked meanings (map file_view ns))
all_values old w ns rs t meanings declared tells =
    let items = t.new.now.enums.items in
    let before = map file_view old.records in
    let more = all_linked meanings (map file_view ns) in
    let own : map kept_values (map enum_of items) ≡ written_values more =
    map_same kept_values enum_of (λ e. kept_values (enum_of e)) (λ e. refl) items
    ∙ values_kept (before_files rs) (batch_declarations w.before w.first ns) items
    declared.entries.enums declared.values
    ∙ batch_values meanings w.before w.first ns in
    map-append kept_values old.enums (map enum_of items)
    ∙ ap (λ vs. vs ++ map kept_values (map enum_of items)) tells
    ∙ ap (λ vs. written_values before ++ vs) own
    ∙ sym (flat_map-append (λ f. flat_map values_in (declarations f)) before more)

module _ (old new : PoolType) (ns : List FileDescriptorProto) (w : Linking) (is : IsOf old w)
    (has : IsWellNamed old) (names : name_faults w.indexes w.known w.before w.first ns ≡ [])
    (batch : FaultlessBatch (with_declared w ns) ns new) (kept : IsKept new) (tells : TellsValues old)
  where
    pub values_new : TellsValues new
    values_new =
        let l = lawful_alone old new ns w is has names batch kept in
        ap (map kept_values) (batch.added.enums
        ∙ ap (λ (p : PoolType). p.enums ++ map enum_of batch.types.new.now.enums.items) is.tables)
        ∙ all_values old w ns batch.references batch.types l.meanings batch.declared tells
        ∙ ap written_values (sym l.stand)

pub pool_values : (old new : PoolType) (fs : List FileDescriptorProto) → IsWellNamed old
    → IsKept new → TellsValues old → FaultlessFiles old fs new → TellsValues new
pool_values old new fs has kept tells (w, is, (names, batch)) =
    values_new old new (new_files w.indexes fs) w is has names batch kept tells
