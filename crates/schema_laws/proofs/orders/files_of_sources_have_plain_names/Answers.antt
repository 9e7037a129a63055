use Rattle.schema_laws.proofs.PlainNames.{undotted}
use Rattle.schema_laws.proofs.orders.files_of_sources_have_plain_names.Goals as goal

pub returns : goal.returns
returns c = undotted
