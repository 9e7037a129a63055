-- Pools that were built batch by batch, and tell of their fields.
use Rattle.std.specs.Prelude.{List}
use Rattle.descriptor_records.specs.Content.{FileContent}
use Rattle.reflect_tables.specs.Types.{PoolType}
use Rattle.settled_view.specs.BuiltBut.{IsBuiltBut}
use Rattle.types_view.specs.Fields.{TellsFields}

-- a pool that the batches build, the last of them first, and whose options were settled since: as
-- its files were linked its entries tell of their fields
pub record IsTyped (batches : List (List FileContent)) (p : PoolType) : Type 0 where
  pub but : IsBuiltBut batches p
  pub tells : TellsFields but.linked
