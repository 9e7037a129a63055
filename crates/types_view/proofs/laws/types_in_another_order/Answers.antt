use Rattle.types_view.proofs.Settled.{types_stay}
use Rattle.types_view.proofs.laws.types_in_another_order.Goals as goal

pub returns : goal.returns
returns c = types_stay
