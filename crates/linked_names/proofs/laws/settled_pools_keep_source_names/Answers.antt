use Rattle.linked_names.proofs.Stays.{settled_sources}
use Rattle.linked_names.proofs.laws.settled_pools_keep_source_names.Goals as goal

pub returns : goal.returns
returns c = settled_sources
