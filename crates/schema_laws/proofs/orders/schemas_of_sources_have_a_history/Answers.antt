use Rattle.schema_laws.proofs.Histories.{history_of}
use Rattle.schema_laws.proofs.orders.schemas_of_sources_have_a_history.Goals as goal

pub returns : goal.returns
returns c = history_of
