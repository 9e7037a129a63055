use Rattle.merge_view.proofs.Cloned.{clone_ordered}
use Rattle.merge_view.proofs.copies.copies_are_in_order.Goals as goal

pub returns : goal.returns
returns c = clone_ordered
