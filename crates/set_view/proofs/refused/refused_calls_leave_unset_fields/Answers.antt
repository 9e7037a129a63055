use Rattle.set_view.proofs.Leaving.{unset_stays}
use Rattle.set_view.proofs.refused.refused_calls_leave_unset_fields.Goals as goal

pub returns : goal.returns
returns c = unset_stays
