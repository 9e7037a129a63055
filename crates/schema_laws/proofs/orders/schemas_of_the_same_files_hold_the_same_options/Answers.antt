use Rattle.schema_laws.proofs.SameRecords.{same_but_for_places}
use Rattle.schema_laws.proofs.orders.schemas_of_the_same_files_hold_the_same_options.Goals as goal

pub returns : goal.returns
returns c = same_but_for_places
