use Rattle.stored_options.proofs.OfSources.{sources_set}
use Rattle.stored_options.proofs.of_sources.options_of_sources_set_what_they_say.Goals as goal

pub returns : goal.returns
returns c = sources_set
