use Rattle.message_view.proofs.Numbered.{empty_ordered}
use Rattle.message_view.proofs.order.empty_messages_are_in_order.Goals as goal

pub returns : goal.returns
returns c = empty_ordered
