use Rattle.source_laws.proofs.PlainFiles.{source_plain}
use Rattle.source_laws.proofs.laws.records_of_sources_are_plain.Goals as goal

pub returns : goal.returns
returns c = source_plain
