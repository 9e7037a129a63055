-- Options that settle to what they are.
use Rattle.std.specs.Prelude.{◌≡◌, ◌≤◌, ℕ, ℤ, List, [], Some, slice_get}
use Rattle.std.specs.List.{AllByRecursion}
use Rattle.descriptor_records.specs.Content.{options_view}
use Rattle.descriptor_records.specs.declared.file.FileDescriptorProto.{FileDescriptorProto}
use Rattle.descriptor_records.specs.declared.options.Options.{Options}
use Rattle.option_setter.specs.declared.option_setter.NameScope.{NameScope}
use Rattle.reflect_options.specs.Entities.{Entity, file_entities}
use Rattle.reflect_options.specs.Settled.{Settles}
use Rattle.reflect_tables.specs.Types.{PoolType}

-- in the pool those of an entity do, and none of them has a place
abbrev pub SettlesToItself : PoolType → Entity → Type 0
SettlesToItself pool c = (s : NameScope) (o settled : Options) (paths : List (List ℤ))
    → c.options ≡ Some o → s.pool.now ≡ pool → Settles c.scope s o (options_view settled) paths
    → (options_view settled ≡ options_view o) × (paths ≡ [])

-- so it is of all in the files from an index on
abbrev pub FilesSettleToThemselves : PoolType → ℕ → Type 0
FilesSettleToThemselves pool first = (k : ℕ) (f : FileDescriptorProto)
    → slice_get pool.records k ≡ Some f → first ≤ k
    → AllByRecursion (SettlesToItself pool) (file_entities k f)
