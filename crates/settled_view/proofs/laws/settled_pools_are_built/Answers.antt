use Rattle.settled_view.proofs.Built.{empty_built_but, built_but_more}
use Rattle.settled_view.proofs.laws.settled_pools_are_built.Goals as goal

pub returns-clause-empty : goal.returns-clause-empty
returns-clause-empty c = empty_built_but

pub returns-clause-kept : goal.returns-clause-kept
returns-clause-kept c = built_but_more
