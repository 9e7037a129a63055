use Rattle.schema_view.proofs.Defaults.{built_defaults}
use Rattle.schema_view.proofs.laws.defaults_are_values.Goals as goal

pub returns : goal.returns
returns c = built_defaults
