use Rattle.source_laws.proofs.Spanning.{source_spans}
use Rattle.source_laws.proofs.laws.locations_of_sources_have_spans.Goals as goal

pub returns : goal.returns
returns c = source_spans
