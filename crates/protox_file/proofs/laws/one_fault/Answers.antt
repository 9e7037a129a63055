use Rattle.protox_file.proofs.Texts.{same_fault}
use Rattle.protox_file.proofs.laws.one_fault.Goals as goal

pub returns : goal.returns
returns c = same_fault
