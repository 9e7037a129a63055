use Rattle.text_view.proofs.Filling.{one_way}
use Rattle.text_view.proofs.laws.texts_fill_in_one_way.Goals as goal

pub returns : goal.returns
returns c = one_way
