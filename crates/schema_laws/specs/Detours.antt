-- Schemas that the own sets of schemas make.
use Rattle.std.specs.Prelude.{◌<◌, ◌^◌, length}
use Rattle.reflect_bytes.specs.Written.{pool_bytes}
use Rattle.reflect_pool.specs.Linked.{empty_pool}
use Rattle.schema_core.specs.Refusals.{IsPool, SetLinked}
use Rattle.schema_core.specs.declared.schema.Schema.{Schema}

-- the own set of the first schema is no longer than a length can say, and the second is made of it
pub record IsDetour (s t : Schema) : Type 0 where
  pub short : length (pool_bytes s.pool) < 2 ^ 64
  pub pool : IsPool t.pool
  pub linked : SetLinked empty_pool (pool_bytes s.pool) t.pool
