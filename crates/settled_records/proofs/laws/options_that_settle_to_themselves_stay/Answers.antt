use Rattle.settled_records.proofs.Themselves.{pool_stays}
use Rattle.settled_records.proofs.laws.options_that_settle_to_themselves_stay.Goals as goal

pub returns : goal.returns
returns c old new first themselves settles = pool_stays old first new themselves settles
