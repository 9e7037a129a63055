use Rattle.schema_laws.proofs.Numbers.{keep_alike}
use Rattle.schema_laws.proofs.told.pools_of_the_same_records_keep_the_same_numbers.Goals as goal

pub returns : goal.returns
returns c = keep_alike
