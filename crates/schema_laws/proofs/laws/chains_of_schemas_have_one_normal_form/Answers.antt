use Rattle.schema_laws.proofs.Recoding.{one_normal_form}
use Rattle.schema_laws.proofs.laws.chains_of_schemas_have_one_normal_form.Goals as goal

pub returns : goal.returns
returns c = one_normal_form
