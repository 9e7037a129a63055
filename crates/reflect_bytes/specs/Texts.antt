-- What is said of files that were not added to a pool.
use Rattle.std.specs.Prelude.{ℕ, List, codes}
use Rattle.reflect_faults.specs.FaultTexts as link
use Rattle.reflect_wire.specs.Texts as wire
use Rattle.reflect_bytes.specs.declared.pool_ext.PoolError.{PoolError}
use Rattle.reflect_bytes.specs.declared.pool_ext.PoolError.TheVariants.{Wire, Link, Memory}

abbrev pub said : PoolError → List ℕ
said (Wire e) = wire.said e
said (Link e) = link.said e.first
said Memory = codes "out of memory"
