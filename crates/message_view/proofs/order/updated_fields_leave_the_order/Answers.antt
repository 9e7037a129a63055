use Rattle.message_view.proofs.Numbered.{field_updated}
use Rattle.message_view.proofs.order.updated_fields_leave_the_order.Goals as goal

pub returns : goal.returns
returns c = field_updated
