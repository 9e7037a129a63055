use Rattle.text_view.proofs.Filling.{unfilled}
use Rattle.text_view.proofs.laws.unfit_texts_give_nothing.Goals as goal

pub returns : goal.returns
returns c = unfilled
