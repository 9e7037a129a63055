use Rattle.texts_view.proofs.Alike.{stand_again, only_stand}
use Rattle.texts_view.proofs.other_options.linked_files_stand_with_other_options.Goals as goal

pub returns-clause-accepted : goal.returns-clause-accepted
returns-clause-accepted c = stand_again

pub returns-clause-same : goal.returns-clause-same
returns-clause-same c = only_stand
