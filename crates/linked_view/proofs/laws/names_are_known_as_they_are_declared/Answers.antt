use Rattle.linked_view.proofs.Known.{files_known}
use Rattle.linked_view.proofs.laws.names_are_known_as_they_are_declared.Goals as goal

pub returns : goal.returns
returns c = files_known
