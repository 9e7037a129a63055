use Rattle.set_view.proofs.Numbered.{field_extended}
use Rattle.set_view.proofs.order.extended_fields_leave_the_order.Goals as goal

pub returns : goal.returns
returns c = field_extended
