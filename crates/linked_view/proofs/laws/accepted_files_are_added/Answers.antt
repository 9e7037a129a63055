use Rattle.linked_view.proofs.Together.{adds_files}
use Rattle.linked_view.proofs.laws.accepted_files_are_added.Goals as goal

pub returns : goal.returns
returns c = adds_files
