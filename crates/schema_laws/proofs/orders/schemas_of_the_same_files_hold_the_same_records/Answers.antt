use Rattle.schema_laws.proofs.SameRecords.{same_records}
use Rattle.schema_laws.proofs.orders.schemas_of_the_same_files_hold_the_same_records.Goals as goal

pub returns : goal.returns
returns c = same_records
