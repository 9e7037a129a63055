use Rattle.linked_names.proofs.ReadDefaults.{accepted_unset}
use Rattle.linked_names.proofs.laws.accepted_files_keep_unset_read.Goals as goal

pub returns : goal.returns
returns c = accepted_unset
