use Rattle.message_view.proofs.Decoded.{decoded_suits}
use Rattle.message_view.proofs.laws.decoded_messages_suit_the_type.Goals as goal

pub returns : goal.returns
returns c = decoded_suits
