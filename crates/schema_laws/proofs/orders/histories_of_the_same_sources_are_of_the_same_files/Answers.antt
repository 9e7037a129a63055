use Rattle.schema_laws.proofs.OneOrder.{same_in_histories}
use Rattle.schema_laws.proofs.orders.histories_of_the_same_sources_are_of_the_same_files.Goals as goal

pub returns : goal.returns
returns c = same_in_histories
