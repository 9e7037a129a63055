use Rattle.settled_view.proofs.Faults.{same_faults}
use Rattle.settled_view.proofs.laws.settled_options_change_no_fault.Goals as goal

pub returns : goal.returns
returns c = same_faults
