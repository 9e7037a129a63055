use Rattle.schema_laws.proofs.OneRefusal.{set_once, sources_once}
use Rattle.schema_laws.proofs.exact.refusals_of_options_tell_the_same.Goals as goal

pub returns-clause-sources : goal.returns-clause-sources
returns-clause-sources c = sources_once

pub returns-clause-sets : goal.returns-clause-sets
returns-clause-sets c = set_once
