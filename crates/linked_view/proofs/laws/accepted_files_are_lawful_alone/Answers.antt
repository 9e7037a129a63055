use Rattle.linked_view.proofs.Accepted.{accepted_alone}
use Rattle.linked_view.proofs.laws.accepted_files_are_lawful_alone.Goals as goal

pub returns : goal.returns
returns c = accepted_alone
