use Rattle.linked_names.proofs.Accepted.{accepted_present}
use Rattle.linked_names.proofs.laws.accepted_files_keep_messages_present.Goals as goal

pub returns : goal.returns
returns c = accepted_present
