-- What each pool has by its type alone.
use Rattle.reflect_tables.specs.Types.{PoolType}
use Rattle.linked_view.specs.Kept.{IsKept}
use Rattle.linked_view.specs.Alone.{IsRecorded}
use Rattle.linked_view.specs.Extended.{IsIndexed}

-- its files are those of its records, its names and numbers stand for its entries, and its parts
-- fit together
pub record IsPool (p : PoolType) : Type 0 where
  pub recorded : IsRecorded p
  pub indexed : IsIndexed p
  pub kept : IsKept p
