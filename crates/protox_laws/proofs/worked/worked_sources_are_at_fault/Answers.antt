use Rattle.protox_laws.proofs.WorkedSources.{all_at_fault}
use Rattle.protox_laws.proofs.worked.worked_sources_are_at_fault.Goals as goal

pub returns : goal.returns
returns c = all_at_fault
