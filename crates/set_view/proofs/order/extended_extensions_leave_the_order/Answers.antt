use Rattle.set_view.proofs.Numbered.{extension_extended}
use Rattle.set_view.proofs.order.extended_extensions_leave_the_order.Goals as goal

pub returns : goal.returns
returns c = extension_extended
