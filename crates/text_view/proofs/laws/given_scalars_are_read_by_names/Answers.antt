use Rattle.text_view.proofs.Wanted.{given_read}
use Rattle.text_view.proofs.laws.given_scalars_are_read_by_names.Goals as goal

pub returns : goal.returns
returns c = given_read
