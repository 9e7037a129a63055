use Rattle.std.proofs.Common.{◌<◌, length, arith, refl}
use Rattle.std.specs.Iterator.{item_count}
use Rattle.reflect_pool.specs.declared.extension.ExtensionDescriptor.{ExtensionDescriptor}
use Rattle.reflect_link.specs.TypesLeft.{extensions_left}
use Rattle.reflect_link.proofs.NextPlace.{gives_next, goes_next}
use Rattle.reflect_link.proofs.pool_readers.AllExtensionsIterator.next.Goals as goal

pub returns-then-self-clause-steps : goal.returns-then-self-clause-steps
returns-then-self-clause-steps c =
    let self = c.args.self.now in
    let there : self.next < length self.pool.now.extensions = omega (arith, c.if-self.true, self.whole) in
    gives_next {X = ExtensionDescriptor} (λ x. x.pool.now) (λ x. x.index) self.pool.now self.next _ c.extension_at.result there c.extension_at.ensures.there c.extension_at.ensures.pool c.extension_at.ensures.index

pub returns-then-self-clause-goes : goal.returns-then-self-clause-goes
returns-then-self-clause-goes c =
    let self = c.args.self.now in
    let there : self.next < length self.pool.now.extensions = omega (arith, c.if-self.true, self.whole) in
    goes_next _ (item_count extensions_left) self _ c.extension_at.result self.pool.now self.next _ there tt refl refl
