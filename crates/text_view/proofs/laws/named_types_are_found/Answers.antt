use Rattle.text_view.proofs.Wanted.{type_found}
use Rattle.text_view.proofs.laws.named_types_are_found.Goals as goal

pub returns : goal.returns
returns c = type_found
