use Rattle.std.proofs.Common.{refl}
use Rattle.linked_view.proofs.Valued.{pool_values}
use Rattle.linked_view.proofs.laws.pools_tell_of_values.Goals as goal

pub returns-clause-empty : goal.returns-clause-empty
returns-clause-empty c = refl

pub returns-clause-kept : goal.returns-clause-kept
returns-clause-kept c = pool_values
