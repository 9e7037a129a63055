use Rattle.reflect_pool.proofs.Within.{method_within}
use Rattle.reflect_pool.proofs.pool.DescriptorPool.input_of.Goals as goal

pub invariant_of-result : goal.invariant_of-result
invariant_of-result c =
    let within = method_within c.self.inside.tables c.args.self.now c.args.service c.args.method c.index.result.now c.index-2.result.now
    c.self.view_is c.self.invariant.pooled c.requires.service c.index.ensures c.requires.method c.index-2.ensures in
    record { in_range = within.0 }
