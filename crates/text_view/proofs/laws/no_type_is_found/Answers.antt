use Rattle.text_view.proofs.Wanted.{type_missing}
use Rattle.text_view.proofs.laws.no_type_is_found.Goals as goal

pub returns : goal.returns
returns c = type_missing
