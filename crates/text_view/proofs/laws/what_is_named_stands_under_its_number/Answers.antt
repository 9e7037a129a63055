use Rattle.text_view.proofs.Named.{stands}
use Rattle.text_view.proofs.laws.what_is_named_stands_under_its_number.Goals as goal

pub returns : goal.returns
returns c = stands
