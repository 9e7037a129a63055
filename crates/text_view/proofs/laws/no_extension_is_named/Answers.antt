use Rattle.text_view.proofs.Named.{found_no_extension}
use Rattle.text_view.proofs.laws.no_extension_is_named.Goals as goal

pub returns : goal.returns
returns c = found_no_extension
