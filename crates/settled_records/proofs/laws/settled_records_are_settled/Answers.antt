use Rattle.settled_records.proofs.Left.{pool_done}
use Rattle.settled_records.proofs.laws.settled_records_are_settled.Goals as goal

pub returns : goal.returns
returns c = pool_done
