use Rattle.reflect_pool.proofs.Within.{children_within}
use Rattle.reflect_pool.proofs.message.MessageDescriptor.children.Goals as goal

pub returns-clause-inside : goal.returns-clause-inside
returns-clause-inside c =
    let self = c.args.self.now in
    children_within c.pool.inside.tables self.pool.now self.index c.index.result.now c.pool.view_is c.pool.invariant.pooled self.in_range c.index.ensures
