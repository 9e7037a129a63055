-- The name stands for the file that has it.
use Rattle.std.proofs.Common.{◌≡◌, subst, rules}
use Rattle.reflect_tables.specs.Finding.{IsFirst}
use Rattle.reflect_tables.specs.Views.{pool_of}
use Rattle.reflect_scope.specs.FileIndexes.{indexes_of}
use Rattle.reflect_pool.proofs.Indexed.{first_file}
use Rattle.reflect_pool.proofs.pool.DescriptorPool.file_place.Goals as goal

pub returns : goal.returns
returns c =
    let t = c.args.name.now in
    let indexes = indexes_of c.self.inside.file_names in
    let is : indexes t ≡ c.copied.result = search rules in
    subst (λ p. IsFirst (λ f. f.name ≡ t) p.files c.copied.result) c.self.view_is (first_file indexes (pool_of c.self.inside.tables).files c.self.invariant.files t c.copied.result is)
