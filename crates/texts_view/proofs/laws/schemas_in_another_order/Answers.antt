use Rattle.texts_view.proofs.Settled.{names_stay}
use Rattle.texts_view.proofs.laws.schemas_in_another_order.Goals as goal

pub returns : goal.returns
returns c = names_stay
