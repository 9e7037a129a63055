use Rattle.set_view.proofs.Viewed.{empty_suits}
use Rattle.set_view.proofs.laws.empty_messages_suit_the_type.Goals as goal

pub returns : goal.returns
returns c = empty_suits
