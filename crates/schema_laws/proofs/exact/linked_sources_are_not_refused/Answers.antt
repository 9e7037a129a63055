use Rattle.schema_laws.proofs.TakenOptions.{sources_taken}
use Rattle.schema_laws.proofs.TakenOrRefused.{sources_not_both}
use Rattle.schema_laws.proofs.ReadSources.{taken_whole}
use Rattle.schema_laws.proofs.exact.linked_sources_are_not_refused.Goals as goal

pub returns-clause-parsed : goal.returns-clause-parsed
returns-clause-parsed c = taken_whole

pub returns-clause-linked : goal.returns-clause-linked
returns-clause-linked c = sources_not_both

pub returns-clause-options : goal.returns-clause-options
returns-clause-options c = sources_taken
