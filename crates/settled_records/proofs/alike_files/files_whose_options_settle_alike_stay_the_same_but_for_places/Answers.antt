use Rattle.settled_records.proofs.Unlocated.{settle_unlocated}
use Rattle.settled_records.proofs.alike_files.files_whose_options_settle_alike_stay_the_same_but_for_places.Goals as goal

pub returns : goal.returns
returns c = settle_unlocated
