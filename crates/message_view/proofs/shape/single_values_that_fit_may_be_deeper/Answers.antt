use Rattle.message_view.proofs.Deeper.{deeper_one}
use Rattle.message_view.proofs.shape.single_values_that_fit_may_be_deeper.Goals as goal

pub returns : goal.returns
returns c = deeper_one
