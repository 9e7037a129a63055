use Rattle.message_view.proofs.Deeper.{deeper_fits}
use Rattle.message_view.proofs.shape.values_that_fit_may_be_deeper.Goals as goal

pub returns : goal.returns
returns c = deeper_fits
