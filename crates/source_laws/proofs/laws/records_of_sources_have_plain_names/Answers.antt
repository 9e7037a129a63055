use Rattle.source_laws.proofs.Sources.{source_undotted}
use Rattle.source_laws.proofs.laws.records_of_sources_have_plain_names.Goals as goal

pub returns : goal.returns
returns c = source_undotted
