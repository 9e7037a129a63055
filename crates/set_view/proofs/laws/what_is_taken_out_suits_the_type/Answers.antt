use Rattle.set_view.proofs.Taken.{taken_suits}
use Rattle.set_view.proofs.laws.what_is_taken_out_suits_the_type.Goals as goal

pub returns : goal.returns
returns c = taken_suits
