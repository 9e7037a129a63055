use Rattle.source_laws.proofs.PlainFiles.{source_options}
use Rattle.source_laws.proofs.laws.records_of_sources_have_their_options.Goals as goal

pub returns : goal.returns
returns c = source_options
