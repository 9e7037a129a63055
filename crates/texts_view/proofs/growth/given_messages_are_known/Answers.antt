use Rattle.texts_view.proofs.Given.{given_known, merged_known}
use Rattle.texts_view.proofs.growth.given_messages_are_known.Goals as goal

pub returns-clause-given : goal.returns-clause-given
returns-clause-given c = given_known

pub returns-clause-merged : goal.returns-clause-merged
returns-clause-merged c = merged_known
