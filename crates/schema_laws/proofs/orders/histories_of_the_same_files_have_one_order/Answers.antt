use Rattle.schema_laws.proofs.OneOrder.{same_made}
use Rattle.schema_laws.proofs.orders.histories_of_the_same_files_have_one_order.Goals as goal

pub returns : goal.returns
returns c = same_made
