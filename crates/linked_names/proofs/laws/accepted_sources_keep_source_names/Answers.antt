use Rattle.linked_names.proofs.Accepted.{accepted_sources}
use Rattle.linked_names.proofs.laws.accepted_sources_keep_source_names.Goals as goal

pub returns : goal.returns
returns c = accepted_sources
