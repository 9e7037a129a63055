use Rattle.set_view.proofs.Suited.{put_suits}
use Rattle.set_view.proofs.laws.put_messages_suit_the_type.Goals as goal

pub returns : goal.returns
returns c = put_suits
