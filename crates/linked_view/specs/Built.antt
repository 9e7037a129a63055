-- Pools whose files were accepted batch by batch.
use Rattle.std.specs.Prelude.{List, map}
use Rattle.descriptor_records.specs.Content.{FileContent, file_view}
use Rattle.reflect_tables.specs.Types.{PoolType}
use Rattle.schema_view.specs.Lawful.{Builds}
use Rattle.linked_view.specs.Alone.{IsWellNamed}
use Rattle.linked_view.specs.Entries.{HasDeclaredEntries, TellsEntries}
use Rattle.linked_view.specs.Extended.{TellsExtensions}
use Rattle.linked_view.specs.Valued.{TellsValues}

-- a pool's records are those that the batches build, the last of them first, and have names as they
-- should; its entries tell of them, and they declare each type of it that has the parts of a map's
-- entry as the type of one
pub record IsBuilt (batches : List (List FileContent)) (p : PoolType) : Type 0 where
  pub named : IsWellNamed p
  pub extensions : TellsExtensions p
  pub values : TellsValues p
  pub entries : TellsEntries p
  pub declared : HasDeclaredEntries p
  pub built : Builds batches (map file_view p.records)
