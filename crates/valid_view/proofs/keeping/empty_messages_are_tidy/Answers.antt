use Rattle.valid_view.proofs.Kept.{empty_solid, empty_tidy}
use Rattle.valid_view.proofs.keeping.empty_messages_are_tidy.Goals as goal

pub returns-clause-tidy : goal.returns-clause-tidy
returns-clause-tidy c = empty_tidy

pub returns-clause-solid : goal.returns-clause-solid
returns-clause-solid c = empty_solid
