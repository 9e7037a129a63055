use Rattle.schema_laws.proofs.OneOrder.{same_sources}
use Rattle.schema_laws.proofs.orders.sources_of_the_same_tokens_make_schemas_of_the_same_files.Goals as goal

pub returns : goal.returns
returns c = same_sources
