use Rattle.stored_options.proofs.Later.{stored_later}
use Rattle.stored_options.proofs.laws.options_without_a_type_are_stored_by_a_later_one.Goals as goal

pub returns : goal.returns
returns c = stored_later
