use Rattle.schema_laws.proofs.Recoding.{equal_forms}
use Rattle.schema_laws.proofs.laws.normal_forms_are_equal_where_meanings_are.Goals as goal

pub returns : goal.returns
returns c = equal_forms
