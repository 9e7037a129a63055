use Rattle.text_view.proofs.Wanted.{none_read}
use Rattle.text_view.proofs.laws.no_other_scalars_are_read_by_names.Goals as goal

pub returns : goal.returns
returns c = none_read
