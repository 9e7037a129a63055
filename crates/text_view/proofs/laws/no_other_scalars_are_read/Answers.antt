use Rattle.text_view.proofs.Scalars.{none_is_given}
use Rattle.text_view.proofs.laws.no_other_scalars_are_read.Goals as goal

pub returns : goal.returns
returns c = none_is_given
