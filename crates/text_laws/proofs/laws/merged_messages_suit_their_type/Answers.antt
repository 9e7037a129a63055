use Rattle.text_laws.proofs.Suited.{merged_suits}
use Rattle.text_laws.proofs.laws.merged_messages_suit_their_type.Goals as goal

pub returns : goal.returns
returns c = merged_suits
