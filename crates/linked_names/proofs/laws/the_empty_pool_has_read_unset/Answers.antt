use Rattle.linked_names.proofs.Stays.{empty_unset}
use Rattle.linked_names.proofs.laws.the_empty_pool_has_read_unset.Goals as goal

pub returns : goal.returns
returns c = empty_unset
