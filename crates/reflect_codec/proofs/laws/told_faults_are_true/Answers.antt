use Rattle.reflect_codec.proofs.Truth.{file_apart, set_apart}
use Rattle.reflect_codec.proofs.laws.told_faults_are_true.Goals as goal

pub returns-clause-file : goal.returns-clause-file
returns-clause-file c = file_apart

pub returns-clause-set : goal.returns-clause-set
returns-clause-set c = set_apart
