use Rattle.set_view.proofs.Leaving.{none_noted}
use Rattle.set_view.proofs.refused.fields_that_are_held_lack_siblings.Goals as goal

pub returns : goal.returns
returns c = none_noted
