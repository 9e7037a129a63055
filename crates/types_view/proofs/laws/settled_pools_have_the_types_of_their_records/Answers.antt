use Rattle.types_view.proofs.Settled.{settled_types}
use Rattle.types_view.proofs.laws.settled_pools_have_the_types_of_their_records.Goals as goal

pub returns : goal.returns
returns c = settled_types
