use Rattle.linked_view.proofs.Parted.{empty_declared, pool_declared}
use Rattle.linked_view.proofs.laws.pools_have_declared_entries.Goals as goal

pub returns-clause-empty : goal.returns-clause-empty
returns-clause-empty c = empty_declared

pub returns-clause-kept : goal.returns-clause-kept
returns-clause-kept c = pool_declared
