use Rattle.settled_records.proofs.Pools.{settle_alike}
use Rattle.settled_records.proofs.alike_files.files_whose_options_settle_alike_settle_alike.Goals as goal

pub returns : goal.returns
returns c = settle_alike
