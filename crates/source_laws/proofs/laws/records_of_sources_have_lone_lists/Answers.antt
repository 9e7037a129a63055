use Rattle.source_laws.proofs.LoneLists.{source_lone}
use Rattle.source_laws.proofs.laws.records_of_sources_have_lone_lists.Goals as goal

pub returns : goal.returns
returns c = source_lone
