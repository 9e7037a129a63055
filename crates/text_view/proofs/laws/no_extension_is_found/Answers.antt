use Rattle.text_view.proofs.Named.{none_found_extension}
use Rattle.text_view.proofs.laws.no_extension_is_found.Goals as goal

pub returns : goal.returns
returns c = none_found_extension
