use Rattle.texts_view.proofs.Files.{built_entries}
use Rattle.texts_view.proofs.growth.entries_have_the_values_of_maps.Goals as goal

pub returns : goal.returns
returns c = built_entries
