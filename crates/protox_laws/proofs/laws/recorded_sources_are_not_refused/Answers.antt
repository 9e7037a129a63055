use Rattle.protox_laws.proofs.Sources.{not_refused}
use Rattle.protox_laws.proofs.laws.recorded_sources_are_not_refused.Goals as goal

pub returns : goal.returns
returns c = not_refused
