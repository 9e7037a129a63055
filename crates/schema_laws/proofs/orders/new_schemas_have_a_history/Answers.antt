use Rattle.std.proofs.Common.{[], ◌∷◌, refl}
use Rattle.reflect_pool.specs.Linked.{empty_pool}
use Rattle.schema_core.specs.Refusals.{descriptor_name}
use Rattle.schema_laws.proofs.Histories.{new_batch, without_files}
use Rattle.schema_laws.proofs.orders.new_schemas_have_a_history.Goals as goal

pub returns : goal.returns
returns c = λ s source pool linked.
    let b = new_batch empty_pool s.pool ((descriptor_name, source) ∷ []) linked in
    (b.0, b.1, (without_files s, refl, record { given = (descriptor_name, source) ∷ []; linked = linked; files = b.1 }, pool))
