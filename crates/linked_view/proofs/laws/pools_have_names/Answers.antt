use Rattle.linked_view.proofs.Kept.{pool_keeps, empty_has_names}
use Rattle.linked_view.proofs.laws.pools_have_names.Goals as goal

pub returns-clause-empty : goal.returns-clause-empty
returns-clause-empty c = empty_has_names

pub returns-clause-kept : goal.returns-clause-kept
returns-clause-kept c = pool_keeps
