use Rattle.schema_laws.proofs.SameFiles.{same_types}
use Rattle.schema_laws.proofs.batches.schemas_have_one_order.Goals as goal

pub returns : goal.returns
returns c = same_types
