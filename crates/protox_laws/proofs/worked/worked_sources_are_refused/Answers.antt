use Rattle.protox_laws.proofs.WorkedSources.{all_refused}
use Rattle.protox_laws.proofs.worked.worked_sources_are_refused.Goals as goal

pub returns : goal.returns
returns c = all_refused
