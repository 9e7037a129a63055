use Rattle.std.proofs.Common.{◌<◌, length}
use Rattle.reflect_pool.proofs.Ranged.{Entry, gives_first, left_all}
use Rattle.reflect_pool.proofs.extension.MessageExtensionsIterator.next.Goals as goal

pub invariant_of-self : goal.invariant_of-self
invariant_of-self c =
    let self = c.args.self.now in
    record { inside = left_all _ (λ (e : Entry). e.1 < length self.pool.now.extensions) self.found c.next.new.self c.next.result c.next.ensures.steps self.inside }

pub returns-clause-steps : goal.returns-clause-steps
returns-clause-steps c =
    let self = c.args.self.now in
    gives_first self.pool.now c.in_ok-place.field-0-0.now c.in_ok-place.place.now self.found c.next.new.self c.extension_at.result c.in_ok-place.ensures.steps self.inside c.extension_at.ensures.there c.extension_at.ensures.pool c.extension_at.ensures.index
