use Rattle.set_view.proofs.Listed.{kept_is_lengthened}
use Rattle.set_view.proofs.lists.lists_that_stay_take_no_values.Goals as goal

pub returns : goal.returns
returns c = kept_is_lengthened
