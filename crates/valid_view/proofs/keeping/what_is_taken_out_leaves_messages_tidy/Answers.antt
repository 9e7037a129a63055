use Rattle.valid_view.proofs.Kept.{taken_solid, taken_tidy}
use Rattle.valid_view.proofs.keeping.what_is_taken_out_leaves_messages_tidy.Goals as goal

pub returns-clause-tidy : goal.returns-clause-tidy
returns-clause-tidy c = taken_tidy

pub returns-clause-solid : goal.returns-clause-solid
returns-clause-solid c = taken_solid
