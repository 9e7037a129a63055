use Rattle.schema_laws.proofs.WrittenAlike.{written_alike}
use Rattle.schema_laws.proofs.records.pools_of_the_same_records_have_the_same_set.Goals as goal

pub returns : goal.returns
returns c = written_alike
