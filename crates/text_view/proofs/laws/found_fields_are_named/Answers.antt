use Rattle.text_view.proofs.Named.{found_fields}
use Rattle.text_view.proofs.laws.found_fields_are_named.Goals as goal

pub returns : goal.returns
returns c = found_fields
