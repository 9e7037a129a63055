use Rattle.std.proofs.Common.{◌≡◌, length, map, arith}
use Rattle.std.proofs.Math.ListN.{length-map}
use Rattle.reflect_tables.specs.Views.{method_of}
use Rattle.reflect_pool.proofs.Within.{service_within}
use Rattle.reflect_pool.proofs.pool.DescriptorPool.method_count.Goals as goal

pub overflow_cast-result : goal.overflow_cast-result
overflow_cast-result c =
    let few = (service_within c.self.inside.tables c.args.self.now c.args.service c.index.result.now c.self.view_is c.self.invariant.pooled c.requires c.index.ensures).few in
    let items = c.index.result.now.methods.items in
    let long : length (map method_of items) ≡ length items = length-map items method_of in
    grind (arith, few, long, c.len.ensures)
