use Rattle.valid_view.proofs.Fitting.{valid_fits_one}
use Rattle.valid_view.proofs.laws.single_values_that_are_valid_fit.Goals as goal

pub returns : goal.returns
returns c = valid_fits_one
