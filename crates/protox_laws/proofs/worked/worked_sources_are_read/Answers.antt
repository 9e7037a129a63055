use Rattle.protox_laws.proofs.WorkedSources.{all_read, braces_read, levels_read}
use Rattle.protox_laws.proofs.worked.worked_sources_are_read.Goals as goal

pub returns-clause-trees : goal.returns-clause-trees
returns-clause-trees c = all_read

pub returns-clause-levels : goal.returns-clause-levels
returns-clause-levels c = levels_read

pub returns-clause-braces : goal.returns-clause-braces
returns-clause-braces c = braces_read
