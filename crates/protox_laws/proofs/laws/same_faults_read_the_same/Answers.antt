use Rattle.protox_laws.proofs.Faults.{read_same}
use Rattle.protox_laws.proofs.laws.same_faults_read_the_same.Goals as goal

pub returns : goal.returns
returns c = read_same
