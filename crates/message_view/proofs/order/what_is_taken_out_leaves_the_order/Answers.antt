use Rattle.message_view.proofs.Taken.{taken_ordered}
use Rattle.message_view.proofs.order.what_is_taken_out_leaves_the_order.Goals as goal

pub returns : goal.returns
returns c = taken_ordered
