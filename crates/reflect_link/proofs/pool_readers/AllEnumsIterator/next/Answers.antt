use Rattle.std.proofs.Common.{◌<◌, length, arith, refl}
use Rattle.std.specs.Iterator.{item_count}
use Rattle.reflect_pool.specs.declared.enums.EnumDescriptor.{EnumDescriptor}
use Rattle.reflect_link.specs.TypesLeft.{enums_left}
use Rattle.reflect_link.proofs.NextPlace.{gives_next, goes_next}
use Rattle.reflect_link.proofs.pool_readers.AllEnumsIterator.next.Goals as goal

pub returns-then-self-clause-steps : goal.returns-then-self-clause-steps
returns-then-self-clause-steps c =
    let self = c.args.self.now in
    let there : self.next < length self.pool.now.enums = omega (arith, c.if-self.true, self.whole) in
    gives_next {X = EnumDescriptor} (λ x. x.pool.now) (λ x. x.index) self.pool.now self.next _ c.enum_at.result there c.enum_at.ensures.there c.enum_at.ensures.pool c.enum_at.ensures.index

pub returns-then-self-clause-goes : goal.returns-then-self-clause-goes
returns-then-self-clause-goes c =
    let self = c.args.self.now in
    let there : self.next < length self.pool.now.enums = omega (arith, c.if-self.true, self.whole) in
    goes_next _ (item_count enums_left) self _ c.enum_at.result self.pool.now self.next _ there tt refl refl
