use Rattle.valid_view.proofs.Told.{extension_suits}
use Rattle.valid_view.proofs.laws.extension_values_that_are_valid_suit.Goals as goal

pub returns : goal.returns
returns c = extension_suits
