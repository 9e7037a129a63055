-- Files that are added to a schema are one batch more.
use Rattle.std.proofs.Common.{List, ◌∷◌, map}
use Rattle.descriptor_records.specs.Content.{FileContent, file_view}
use Rattle.descriptor_records.specs.declared.file.FileDescriptorProto.{FileDescriptorProto}
use Rattle.option_parts.specs.TypedOptions.{TypedFiles}
use Rattle.reflect_build.specs.Refusals.{IsOf, Linking, new_files}
use Rattle.reflect_tables.specs.Types.{PoolType}
use Rattle.types_view.specs.Typed.{IsTyped}
use Rattle.types_view.proofs.Settled.{typed_more}
use Rattle.schema_core.specs.Refusals.{FilesLinked, IsPool}
use Rattle.schema_core.specs.declared.schema.Schema.{Schema}
use Rattle.schema_laws.specs.Batches.{Grows}
use Rattle.schema_laws.specs.Histories.{Addition, AdditionLinked, of_set, of_sources}

pub record IsBatch (earlier : List (List FileContent)) (old : PoolType)
    (files : List FileDescriptorProto) (new : PoolType) : Type 0 where
  pub typed : List FileDescriptorProto
  pub linking : Linking
  pub types : TypedFiles files typed
  pub of : IsOf old linking
  pub built : IsTyped (map file_view (new_files linking.indexes typed) ∷ earlier) new

pub linked_batch : (earlier : List (List FileContent)) (old new : PoolType)
    (files : List FileDescriptorProto) → IsTyped earlier old → IsPool new
    → FilesLinked old files new → IsBatch earlier old files new
linked_batch earlier old new files is pool (linked, fit, options, settled, bare) =
    let r = typed_more earlier old linked new fit.0 is pool fit.2.1
    (record { settled = settled; bare = bare }) in
    record { typed = fit.0; linking = r.linking; types = fit.1; of = r.of; built = r.typed }

-- so it is of what was added to a schema, sources or a set
pub grown_batch : (earlier : List (List FileContent)) (old new : Schema) → IsTyped earlier old.pool
    → Grows old new → (batch : List FileContent) × IsTyped (batch ∷ earlier) new.pool
grown_batch earlier old new is grows = by grows.addition grows.linked where
  linked : (files : List FileDescriptorProto) → FilesLinked old.pool files new.pool → (batch : List FileContent) × IsTyped (batch ∷ earlier) new.pool
  linked files fit = (_, (linked_batch earlier old.pool new.pool files is grows.after fit).built)

  by : (a : Addition) → AdditionLinked old.pool a new.pool → (batch : List FileContent) × IsTyped (batch ∷ earlier) new.pool
  by (of_sources given) (files, are, fit) = linked files fit
  by (of_set bytes) (files, are, fit) = linked files fit
