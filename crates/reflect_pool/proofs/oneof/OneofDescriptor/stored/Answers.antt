use Rattle.std.proofs.Common.{subst}
use Rattle.std.specs.List.{AllByRecursion}
use Rattle.reflect_tables.specs.Types.{PoolType, ListsMembers}
use Rattle.reflect_pool.proofs.OneofMembers.{members_are}
use Rattle.reflect_pool.proofs.Within.{members_within}
use Rattle.reflect_pool.proofs.oneof.OneofDescriptor.stored.Goals as goal

pub returns-clause-within : goal.returns-clause-within
returns-clause-within c =
    let self = c.args.self.now in
    members_within c.pool.inside.tables self.message.pool.now self.message.index self.index c.index.result.now c.index-2.result.now
    c.pool.view_is c.pool.invariant.pooled self.message.in_range c.index.ensures self.in_range c.index-2.ensures

pub returns-clause-members : goal.returns-clause-members
returns-clause-members c =
    let self = c.args.self.now in
    let listed = subst (λ (p : PoolType). AllByRecursion ListsMembers p.messages) c.pool.view_is c.pool.invariant.pooled.listed in
    members_are self.message.pool.now self.message.index self.index listed self.message.in_range self.in_range
