use Rattle.valid_view.proofs.Told.{valid_suits_one}
use Rattle.valid_view.proofs.laws.single_values_that_are_valid_suit.Goals as goal

pub returns : goal.returns
returns c = valid_suits_one
