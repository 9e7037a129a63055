-- Pools whose files were accepted batch by batch, and whose options were settled since.
use Rattle.std.specs.Prelude.{◌≡◌, List, map}
use Rattle.descriptor_records.specs.Content.{FileContent}
use Rattle.reflect_growth.specs.Settled.{bare_of}
use Rattle.reflect_tables.specs.Types.{PoolType, IsSettled}
use Rattle.linked_view.specs.Built.{IsBuilt}

-- nothing but records is otherwise in the second pool than in the first, and in these nothing but
-- options and the paths of locations
pub record ChangesOptions (linked p : PoolType) : Type 0 where
  pub settled : IsSettled linked p
  pub bare : map bare_of p.records ≡ map bare_of linked.records

-- the batches, the last of them first, build a pool whose options were settled since
pub record IsBuiltBut (batches : List (List FileContent)) (p : PoolType) : Type 0 where
  pub linked : PoolType
  pub built : IsBuilt batches linked
  pub settles : ChangesOptions linked p
