use Rattle.linked_names.proofs.Stays.{settled_unset}
use Rattle.linked_names.proofs.laws.settled_pools_keep_unset_read.Goals as goal

pub returns : goal.returns
returns c = settled_unset
