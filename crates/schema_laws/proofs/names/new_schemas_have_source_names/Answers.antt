use Rattle.std.proofs.Common.{[], ◌∷◌}
use Rattle.reflect_pool.specs.Linked.{empty_pool}
use Rattle.types_view.proofs.Pools.{empty_sound}
use Rattle.schema_core.specs.Refusals.{descriptor_name}
use Rattle.schema_laws.proofs.Naming.{empty_sources, named_by_sources}
use Rattle.schema_laws.proofs.names.new_schemas_have_source_names.Goals as goal

pub returns : goal.returns
returns c = λ s source linked. named_by_sources empty_pool s.pool ((descriptor_name, source) ∷ []) empty_sound linked empty_sources
