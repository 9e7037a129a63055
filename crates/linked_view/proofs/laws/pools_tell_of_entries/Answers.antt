use Rattle.linked_view.proofs.Parted.{empty_entries, pool_entries}
use Rattle.linked_view.proofs.laws.pools_tell_of_entries.Goals as goal

pub returns-clause-empty : goal.returns-clause-empty
returns-clause-empty c = empty_entries

pub returns-clause-kept : goal.returns-clause-kept
returns-clause-kept c = pool_entries
