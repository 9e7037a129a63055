use Rattle.schema_laws.proofs.Recoding.{passed}
use Rattle.schema_laws.proofs.laws.bytes_pass_through_an_older_schema.Goals as goal

pub returns : goal.returns
returns c = passed
