use Rattle.linked_names.proofs.Accepted.{accepted_apart}
use Rattle.linked_names.proofs.laws.accepted_files_keep_names_apart.Goals as goal

pub returns : goal.returns
returns c = accepted_apart
