use Rattle.valid_view.proofs.Staying.{extension_stays}
use Rattle.valid_view.proofs.calls.valid_extensions_leave_shape_and_type.Goals as goal

pub returns : goal.returns
returns c = extension_stays
