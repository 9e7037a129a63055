use Rattle.schema_laws.proofs.Numbers.{settled_keeps}
use Rattle.schema_laws.proofs.told.settled_pools_keep_the_same_numbers.Goals as goal

pub returns : goal.returns
returns c = settled_keeps
