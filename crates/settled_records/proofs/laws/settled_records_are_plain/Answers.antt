use Rattle.settled_records.proofs.Settled.{pool_plain}
use Rattle.settled_records.proofs.laws.settled_records_are_plain.Goals as goal

pub returns : goal.returns
returns c = pool_plain
