use Rattle.text_syntax.proofs.Examples.{none, worked}
use Rattle.text_syntax.proofs.laws.worked_texts_are_read.Goals as goal

pub returns-clause-trees : goal.returns-clause-trees
returns-clause-trees c = worked

pub returns-clause-none : goal.returns-clause-none
returns-clause-none c = none
