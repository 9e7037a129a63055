use Rattle.std.proofs.Common.{ap, sym, ◌∙◌}
use Rattle.reflect_tables.specs.Types.{PoolType}
use Rattle.reflect_tables.specs.Views.{pool_of, record_of, record_file}
use Rattle.reflect_growth.proofs.Filters.{map_map}
use Rattle.reflect_build.proofs.Settled.{linked_settled}
use Rattle.reflect_build.proofs.build.DescriptorPoolBuildFiles.settle.Goals as goal

pub from_parts-requires : goal.from_parts-requires
from_parts-requires c =
    let p = c.take_parts-parts.result in
    let new = c.settle_all.new.tables in
    let headers = ap (λ (q : PoolType). q.files) (sym c.settle_all.ensures.settled)
    ∙ sym (map_map record_file record_of new.files.items) in
    linked_settled (pool_of p.tables) (pool_of new) p.names p.file_names p.extension_numbers
    p.links.items p.tables.messages.items new.messages.items c.settle_all.ensures.settled
    c.settle_all.ensures.names c.settle_all.ensures.bare headers c.settle_all.ensures.messages
    c.take_parts-parts.ensures.fit
