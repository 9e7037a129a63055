use Rattle.text_view.proofs.Told.{no_second}
use Rattle.text_view.proofs.laws.no_second_value_is_set.Goals as goal

pub returns : goal.returns
returns c = no_second
