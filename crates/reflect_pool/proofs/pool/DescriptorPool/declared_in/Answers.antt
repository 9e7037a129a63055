use Rattle.reflect_pool.proofs.Within.{declared_within}
use Rattle.reflect_pool.proofs.pool.DescriptorPool.declared_in.Goals as goal

pub returns-clause-inside : goal.returns-clause-inside
returns-clause-inside c = declared_within c.self.inside.tables c.args.self.now c.args.file c.index.result.now c.self.view_is c.self.invariant.pooled c.requires c.index.ensures
