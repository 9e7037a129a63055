use Rattle.std.proofs.Common.{◌<◌, length, arith, refl}
use Rattle.std.specs.Iterator.{item_count}
use Rattle.reflect_tables.specs.Types.{service_at}
use Rattle.reflect_link.specs.declared.service.MethodDescriptor.{MethodDescriptor}
use Rattle.reflect_link.specs.MethodsLeft.{methods_left}
use Rattle.reflect_link.proofs.NextPlace.{gives_next, goes_next}
use Rattle.reflect_link.proofs.service.MethodsIterator.next.Goals as goal

pub returns-then-self-clause-steps : goal.returns-then-self-clause-steps
returns-then-self-clause-steps c =
    let self = c.args.self.now in
    let there : self.next < length (service_at self.service.pool.now self.service.index).methods = omega (arith, c.if-self.true, self.whole) in
    gives_next {X = MethodDescriptor} (λ x. x.service) (λ x. x.index) self.service self.next _ c.method_at.result there c.method_at.ensures.there c.method_at.ensures.service c.method_at.ensures.index

pub returns-then-self-clause-goes : goal.returns-then-self-clause-goes
returns-then-self-clause-goes c =
    let self = c.args.self.now in
    let there : self.next < length (service_at self.service.pool.now self.service.index).methods = omega (arith, c.if-self.true, self.whole) in
    goes_next _ (item_count methods_left) self _ c.method_at.result self.service self.next _ there tt refl refl
