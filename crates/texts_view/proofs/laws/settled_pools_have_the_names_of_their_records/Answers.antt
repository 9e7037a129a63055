use Rattle.texts_view.proofs.Settled.{settled_names}
use Rattle.texts_view.proofs.laws.settled_pools_have_the_names_of_their_records.Goals as goal

pub returns : goal.returns
returns c = settled_names
