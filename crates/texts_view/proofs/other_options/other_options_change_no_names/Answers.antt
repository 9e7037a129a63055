use Rattle.texts_view.proofs.ReadNames.{names_alike}
use Rattle.texts_view.proofs.other_options.other_options_change_no_names.Goals as goal

pub returns : goal.returns
returns c = names_alike
