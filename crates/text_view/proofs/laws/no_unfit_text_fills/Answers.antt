use Rattle.text_view.proofs.Filling.{apart}
use Rattle.text_view.proofs.laws.no_unfit_text_fills.Goals as goal

pub returns : goal.returns
returns c = apart
