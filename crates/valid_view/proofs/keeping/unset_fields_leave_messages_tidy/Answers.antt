use Rattle.valid_view.proofs.Kept.{unset_solid, unset_tidy}
use Rattle.valid_view.proofs.keeping.unset_fields_leave_messages_tidy.Goals as goal

pub returns-clause-tidy : goal.returns-clause-tidy
returns-clause-tidy c = unset_tidy

pub returns-clause-solid : goal.returns-clause-solid
returns-clause-solid c = unset_solid
