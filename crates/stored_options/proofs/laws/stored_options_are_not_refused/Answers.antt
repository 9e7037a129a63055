use Rattle.stored_options.proofs.Refusals.{stored_not_refused}
use Rattle.stored_options.proofs.laws.stored_options_are_not_refused.Goals as goal

pub returns : goal.returns
returns c = stored_not_refused
