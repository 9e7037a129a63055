use Rattle.linked_view.proofs.Together.{built_more, empty_built}
use Rattle.linked_view.proofs.laws.pools_are_built.Goals as goal

pub returns-clause-empty : goal.returns-clause-empty
returns-clause-empty c = empty_built

pub returns-clause-kept : goal.returns-clause-kept
returns-clause-kept c = built_more
