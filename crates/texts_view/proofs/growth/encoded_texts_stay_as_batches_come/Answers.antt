use Rattle.texts_view.proofs.Batches.{given_further, written_further}
use Rattle.texts_view.proofs.growth.encoded_texts_stay_as_batches_come.Goals as goal

pub returns-clause-given : goal.returns-clause-given
returns-clause-given c = given_further

pub returns-clause-written : goal.returns-clause-written
returns-clause-written c = written_further
