use Rattle.texts_view.proofs.Settled.{built_names}
use Rattle.texts_view.proofs.laws.built_pools_have_the_names_of_their_records.Goals as goal

pub returns : goal.returns
returns c = built_names
