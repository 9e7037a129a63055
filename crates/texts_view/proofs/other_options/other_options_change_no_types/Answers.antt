use Rattle.texts_view.proofs.ReadTypes.{types_alike}
use Rattle.texts_view.proofs.other_options.other_options_change_no_types.Goals as goal

pub returns : goal.returns
returns c = types_alike
