use Rattle.print_view.proofs.WorkedTold.{worked}
use Rattle.print_view.proofs.told.worked_records_are_told.Goals as goal

pub returns : goal.returns
returns c = worked
