use Rattle.std.proofs.Common.{◌≡◌, is_some, map, subst, rules}
use Rattle.std.specs.Bool.{Decides}
use Rattle.std.specs.List.{Contains}
use Rattle.reflect_tables.specs.Views.{pool_of}
use Rattle.reflect_scope.specs.FileIndexes.{indexes_of}
use Rattle.reflect_pool.proofs.Indexed.{has_name}
use Rattle.reflect_pool.proofs.pool.DescriptorPool.has_file.Goals as goal

pub returns : goal.returns
returns c =
    let t = c.args.name.now in
    let indexes = indexes_of c.self.inside.file_names in
    let is : c.contains_key.result ≡ is_some (indexes t) = search rules in
    subst (λ p. Decides c.contains_key.result (Contains (map (λ f. f.name) p.files) t)) c.self.view_is (has_name indexes (pool_of c.self.inside.tables).files c.self.invariant.files t c.contains_key.result is)
