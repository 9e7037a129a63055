use Rattle.protox_laws.proofs.Faults.{printed_same, tell_same}
use Rattle.protox_laws.proofs.laws.refusals_tell_the_same.Goals as goal

pub returns-clause-told : goal.returns-clause-told
returns-clause-told c = λ name z r s h p k q. tell_same name z r s h p k q

pub returns-clause-printed : goal.returns-clause-printed
returns-clause-printed c = printed_same
