use Rattle.source_laws.proofs.Sources.{source_names}
use Rattle.source_laws.proofs.laws.records_of_sources_have_source_names.Goals as goal

pub returns : goal.returns
returns c = source_names
