use Rattle.stored_options.proofs.Again.{settled_again}
use Rattle.stored_options.proofs.laws.stored_options_settle_to_themselves.Goals as goal

pub returns : goal.returns
returns c = settled_again
