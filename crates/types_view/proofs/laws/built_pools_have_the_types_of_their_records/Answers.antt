use Rattle.types_view.proofs.Settled.{built_types}
use Rattle.types_view.proofs.laws.built_pools_have_the_types_of_their_records.Goals as goal

pub returns : goal.returns
returns c = built_types
