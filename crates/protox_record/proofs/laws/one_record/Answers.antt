use Rattle.protox_record.proofs.OneFile.{same_file}
use Rattle.protox_record.proofs.laws.one_record.Goals as goal

pub returns : goal.returns
returns c = same_file
