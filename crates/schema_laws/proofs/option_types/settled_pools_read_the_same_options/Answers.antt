use Rattle.schema_laws.proofs.Settled.{settled_reads}
use Rattle.schema_laws.proofs.option_types.settled_pools_read_the_same_options.Goals as goal

pub returns : goal.returns
returns c = settled_reads
