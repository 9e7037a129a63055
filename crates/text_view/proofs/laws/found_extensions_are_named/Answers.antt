use Rattle.text_view.proofs.Named.{found_extensions}
use Rattle.text_view.proofs.laws.found_extensions_are_named.Goals as goal

pub returns : goal.returns
returns c = found_extensions
