use Rattle.reflect_pool.proofs.Within.{kind_within, oneof_within}
use Rattle.reflect_pool.proofs.field.FieldDescriptor.stored.Goals as goal

pub returns-clause-within : goal.returns-clause-within
returns-clause-within c =
    let self = c.args.self.now in
    kind_within c.pool.inside.tables self.message.pool.now self.message.index self.index c.index.result.now c.index-2.result.now
    c.pool.view_is c.pool.invariant.pooled self.message.in_range c.index.ensures self.in_range c.index-2.ensures

pub returns-clause-oneof : goal.returns-clause-oneof
returns-clause-oneof c =
    let self = c.args.self.now in
    oneof_within c.pool.inside.tables self.message.pool.now self.message.index self.index c.index.result.now c.index-2.result.now
    c.pool.view_is c.pool.invariant.pooled self.message.in_range c.index.ensures self.in_range c.index-2.ensures
