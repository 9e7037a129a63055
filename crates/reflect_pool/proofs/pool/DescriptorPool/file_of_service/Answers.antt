use Rattle.reflect_pool.proofs.Within.{service_within}
use Rattle.reflect_pool.proofs.pool.DescriptorPool.file_of_service.Goals as goal

pub returns-clause-inside : goal.returns-clause-inside
returns-clause-inside c = (service_within c.self.inside.tables c.args.self.now c.args.index c.index.result.now c.self.view_is c.self.invariant.pooled c.requires c.index.ensures).file
