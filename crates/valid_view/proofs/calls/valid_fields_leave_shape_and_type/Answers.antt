use Rattle.valid_view.proofs.Staying.{field_stays}
use Rattle.valid_view.proofs.calls.valid_fields_leave_shape_and_type.Goals as goal

pub returns : goal.returns
returns c = field_stays
