use Rattle.texts_view.proofs.Grown.{given_again, merged_again}
use Rattle.texts_view.proofs.growth.texts_give_the_same_as_schemas_grow.Goals as goal

pub returns-clause-given : goal.returns-clause-given
returns-clause-given c = given_again

pub returns-clause-merged : goal.returns-clause-merged
returns-clause-merged c = merged_again
