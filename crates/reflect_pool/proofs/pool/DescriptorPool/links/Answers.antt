use Rattle.std.proofs.Common.{◌∙◌, map, ap}
use Rattle.reflect_scope.specs.FileIndexes.{link_view}
use Rattle.reflect_tables.specs.Views.{pool_of}
use Rattle.reflect_pool.proofs.ImportsAt.{links_are}
use Rattle.reflect_pool.proofs.pool.DescriptorPool.links.Goals as goal

pub returns : goal.returns
returns c =
    let p = c.self.inside in
    ap (map link_view) c.as_slice.ensures.value ∙ links_are (pool_of p.tables) c.args.self.now p.names p.file_names p.extension_numbers p.links.items c.self.view_is c.self.invariant
