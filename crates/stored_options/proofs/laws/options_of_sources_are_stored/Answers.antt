use Rattle.stored_options.proofs.Sources.{sources_stored}
use Rattle.stored_options.proofs.laws.options_of_sources_are_stored.Goals as goal

pub returns : goal.returns
returns c = sources_stored
