use Rattle.reflect_pool.proofs.Within.{message_within}
use Rattle.reflect_pool.proofs.message.MessageDescriptor.stored.Goals as goal

pub returns-clause-within : goal.returns-clause-within
returns-clause-within c =
    let self = c.args.self.now in
    message_within c.pool.inside.tables self.pool.now self.index c.index.result.now c.pool.view_is c.pool.invariant.pooled self.in_range c.index.ensures
