use Rattle.settled_records.proofs.OwnPaths.{one_at_a_path}
use Rattle.settled_records.proofs.records.entities_stand_at_paths_of_their_own.Goals as goal

pub returns : goal.returns
returns c = one_at_a_path
