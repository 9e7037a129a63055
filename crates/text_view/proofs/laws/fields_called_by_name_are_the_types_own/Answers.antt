use Rattle.text_view.proofs.Apart.{called_owns}
use Rattle.text_view.proofs.laws.fields_called_by_name_are_the_types_own.Goals as goal

pub returns : goal.returns
returns c = called_owns
