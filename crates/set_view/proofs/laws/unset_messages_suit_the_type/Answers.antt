use Rattle.set_view.proofs.Suited.{unset_suits}
use Rattle.set_view.proofs.laws.unset_messages_suit_the_type.Goals as goal

pub returns : goal.returns
returns c = unset_suits
