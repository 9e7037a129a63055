use Rattle.texts_view.proofs.Batches.{bytes_stay, given_stays}
use Rattle.texts_view.proofs.growth.encoded_texts_stay_as_files_come.Goals as goal

pub returns-clause-given : goal.returns-clause-given
returns-clause-given c = given_stays

pub returns-clause-written : goal.returns-clause-written
returns-clause-written c = bytes_stay
