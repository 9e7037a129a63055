use Rattle.protox_laws.proofs.Faults.{same_faults}
use Rattle.protox_laws.proofs.laws.one_source_has_the_same_faults.Goals as goal

pub returns : goal.returns
returns c = λ name other z r s h k. same_faults z r.faults.items s.faults.items h k
