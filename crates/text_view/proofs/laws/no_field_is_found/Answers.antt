use Rattle.text_view.proofs.Named.{none_found}
use Rattle.text_view.proofs.laws.no_field_is_found.Goals as goal

pub returns : goal.returns
returns c = none_found
