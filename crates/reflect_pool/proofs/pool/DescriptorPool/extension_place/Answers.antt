-- The message and the number stand for the extension that has them.
use Rattle.std.proofs.Common.{◌≡◌, subst, rules}
use Rattle.reflect_tables.specs.Finding.{IsFirst}
use Rattle.reflect_tables.specs.Views.{pool_of}
use Rattle.reflect_tables.specs.ExtensionNumbers.{numbers_of}
use Rattle.reflect_pool.proofs.Numbered.{first_numbered}
use Rattle.reflect_pool.proofs.pool.DescriptorPool.extension_place.Goals as goal

pub returns : goal.returns
returns c =
    let message = c.args.message in
    let number = c.args.number in
    let numbers = numbers_of c.self.inside.extension_numbers in
    let is : numbers (message, number) ≡ c.copied.result = search rules in
    subst (λ p. IsFirst (λ x. (x.extendee ≡ message) × (x.field.number ≡ number)) p.extensions c.copied.result) c.self.view_is
    (first_numbered numbers (pool_of c.self.inside.tables).extensions c.self.invariant.numbers (message, number) c.copied.result is)
