use Rattle.text_view.proofs.Scalars.{scalar_is_given}
use Rattle.text_view.proofs.laws.given_scalars_are_read.Goals as goal

pub returns : goal.returns
returns c = scalar_is_given
