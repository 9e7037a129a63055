use Rattle.valid_view.proofs.Told.{field_suits}
use Rattle.valid_view.proofs.laws.values_that_are_valid_suit.Goals as goal

pub returns : goal.returns
returns c = field_suits
