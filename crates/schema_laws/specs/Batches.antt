-- Files that were added to schemas in batches, and why files are no batch behind a schema's.
use Rattle.std.specs.Prelude.{◌⊎◌, List, length, map, Contains}
use Rattle.descriptor_records.specs.Content.{FileContent, file_view, unlocated}
use Rattle.descriptor_records.specs.declared.file.FileDescriptorProto.{FileDescriptorProto}
use Rattle.reflect_build.specs.Refusals.{AreTooMany, IsOf, Linking, new_files}
use Rattle.reflect_options.specs.Settling.{SettlesPool}
use Rattle.reflect_tables.specs.Types.{PoolType}
use Rattle.schema_core.specs.Refusals.{FilesFit, IsPool}
use Rattle.schema_core.specs.declared.schema.Schema.{Schema}
use Rattle.schema_view.specs.Lawful.{IsLawful, Meanings, SameFiles, sources}
use Rattle.schema_view.specs.Plain.{IsPlainFile}
use Rattle.types_view.specs.Typed.{IsTyped}
use Rattle.schema_laws.specs.Histories.{Addition, AdditionLinked}

-- sources, or a descriptor set, were added to the first schema, which became the second
pub record Grows (old new : Schema) : Type 0 where
  pub before : IsPool old.pool
  pub after : IsPool new.pool
  pub addition : Addition
  pub linked : AdditionLinked old.pool addition new.pool

-- the same files, but for lines, columns and comments, were added to both schemas in these batches
-- and in those; their names have no dots, as sources give them
pub record HaveSameFiles (batches others : List (List FileContent)) (s t : Schema) : Type 0 where
  pub plain : (f : FileContent) → Contains (sources batches) f → IsPlainFile f
  pub same : SameFiles (map unlocated (sources batches)) (map unlocated (sources others))
  pub first : IsTyped batches s.pool
  pub second : IsTyped others t.pool
  pub pool : IsPool s.pool
  pub other_pool : IsPool t.pool

-- those that the pool has not yet are not lawful behind the records that linking wrote of it,
-- whatever their references mean
abbrev pub AreUnlawful : (linked p : PoolType) → List FileDescriptorProto → Type 0
AreUnlawful linked p fs = (w : Linking) × IsOf p w × ((meanings : Meanings)
    → IsLawful (map file_view linked.records) (map file_view (new_files w.indexes fs)) meanings → ⊥)

-- so it is, or they are too many
abbrev pub AreNoBatch : (linked p : PoolType) → List FileDescriptorProto → Type 0
AreNoBatch linked p fs = AreTooMany p fs ⊎ AreUnlawful linked p fs

-- they fit together behind a pool, and the pool that they make there has no settled one
abbrev pub FitUnsettled : PoolType → List FileDescriptorProto → Type 0
FitUnsettled p files = (linked : PoolType) × FilesFit p files linked
    × ((new : PoolType) → SettlesPool linked (length p.files) new → ⊥)
