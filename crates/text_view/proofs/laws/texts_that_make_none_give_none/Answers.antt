use Rattle.text_view.proofs.Made.{none_given}
use Rattle.text_view.proofs.laws.texts_that_make_none_give_none.Goals as goal

pub returns : goal.returns
returns c = none_given
