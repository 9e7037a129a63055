use Rattle.valid_view.proofs.Fitting.{valid_fits}
use Rattle.valid_view.proofs.laws.values_that_are_valid_fit.Goals as goal

pub returns : goal.returns
returns c exclusive levels pool f v valid inside = valid_fits exclusive levels pool f v valid.1 inside
