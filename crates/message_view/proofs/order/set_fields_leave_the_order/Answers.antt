use Rattle.message_view.proofs.Numbered.{set_ordered}
use Rattle.message_view.proofs.order.set_fields_leave_the_order.Goals as goal

pub returns : goal.returns
returns c = set_ordered
