use Rattle.text_laws.proofs.Suited.{given_suits}
use Rattle.text_laws.proofs.laws.given_messages_suit_their_type.Goals as goal

pub returns : goal.returns
returns c = given_suits
