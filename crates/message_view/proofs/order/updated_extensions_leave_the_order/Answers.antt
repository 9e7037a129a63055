use Rattle.message_view.proofs.Numbered.{extension_updated}
use Rattle.message_view.proofs.order.updated_extensions_leave_the_order.Goals as goal

pub returns : goal.returns
returns c = extension_updated
