use Rattle.text_view.proofs.Filling.{filled}
use Rattle.text_view.proofs.laws.texts_give_what_they_fill.Goals as goal

pub returns : goal.returns
returns c = filled
