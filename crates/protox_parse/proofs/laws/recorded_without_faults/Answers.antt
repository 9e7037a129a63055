use Rattle.protox_parse.proofs.Answered.{none_recorded}
use Rattle.protox_parse.proofs.laws.recorded_without_faults.Goals as goal

pub returns : goal.returns
returns c = none_recorded
