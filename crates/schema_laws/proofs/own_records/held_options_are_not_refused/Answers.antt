use Rattle.schema_laws.proofs.Taken.{not_refused}
use Rattle.schema_laws.proofs.own_records.held_options_are_not_refused.Goals as goal

pub returns : goal.returns
returns c = not_refused
