use Rattle.std.proofs.Common.{◌≡◌, subst}
use Rattle.reflect_known.specs.KnownNames.{known_of_files}
use Rattle.reflect_scope.specs.Known.{known_of}
use Rattle.reflect_tables.specs.Types.{PoolType}
use Rattle.reflect_pool.proofs.pool.DescriptorPool.names.Goals as goal

pub returns : goal.returns
returns c =
    subst (λ (p : PoolType). known_of c.self.inside.names ≡ known_of_files p.records) c.self.view_is
    c.self.invariant.known
