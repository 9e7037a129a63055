use Rattle.text_view.proofs.Named.{found_none}
use Rattle.text_view.proofs.laws.no_field_is_named.Goals as goal

pub returns : goal.returns
returns c = found_none
