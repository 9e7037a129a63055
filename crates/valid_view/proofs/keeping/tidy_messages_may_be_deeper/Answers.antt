use Rattle.valid_view.proofs.Deepening.{solid_deeper, tidy_deeper}
use Rattle.valid_view.proofs.keeping.tidy_messages_may_be_deeper.Goals as goal

pub returns-clause-tidy : goal.returns-clause-tidy
returns-clause-tidy c = tidy_deeper

pub returns-clause-solid : goal.returns-clause-solid
returns-clause-solid c = solid_deeper
