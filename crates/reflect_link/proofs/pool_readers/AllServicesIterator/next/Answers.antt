use Rattle.std.proofs.Common.{◌<◌, length, arith, refl}
use Rattle.std.specs.Iterator.{item_count}
use Rattle.reflect_link.specs.declared.service.ServiceDescriptor.{ServiceDescriptor}
use Rattle.reflect_link.specs.TypesLeft.{services_left}
use Rattle.reflect_link.proofs.NextPlace.{gives_next, goes_next}
use Rattle.reflect_link.proofs.pool_readers.AllServicesIterator.next.Goals as goal

pub returns-then-self-clause-steps : goal.returns-then-self-clause-steps
returns-then-self-clause-steps c =
    let self = c.args.self.now in
    let there : self.next < length self.pool.now.services = omega (arith, c.if-self.true, self.whole) in
    gives_next {X = ServiceDescriptor} (λ x. x.pool.now) (λ x. x.index) self.pool.now self.next _ c.service_in.result there c.service_in.ensures.there c.service_in.ensures.pool c.service_in.ensures.index

pub returns-then-self-clause-goes : goal.returns-then-self-clause-goes
returns-then-self-clause-goes c =
    let self = c.args.self.now in
    let there : self.next < length self.pool.now.services = omega (arith, c.if-self.true, self.whole) in
    goes_next _ (item_count services_left) self _ c.service_in.result self.pool.now self.next _ there tt refl refl
