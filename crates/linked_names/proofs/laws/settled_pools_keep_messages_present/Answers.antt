use Rattle.linked_names.proofs.Stays.{settled_present}
use Rattle.linked_names.proofs.laws.settled_pools_keep_messages_present.Goals as goal

pub returns : goal.returns
returns c = settled_present
