use Rattle.linked_view.proofs.Telling.{pool_tells}
use Rattle.linked_view.proofs.laws.pools_tell_of_extensions.Goals as goal

pub returns-clause-empty : goal.returns-clause-empty
returns-clause-empty c = tt

pub returns-clause-kept : goal.returns-clause-kept
returns-clause-kept c = pool_tells
