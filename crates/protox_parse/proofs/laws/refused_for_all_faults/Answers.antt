use Rattle.protox_parse.proofs.Answered.{all_told}
use Rattle.protox_parse.proofs.laws.refused_for_all_faults.Goals as goal

pub returns : goal.returns
returns c = all_told
