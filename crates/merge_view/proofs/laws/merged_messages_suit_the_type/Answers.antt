use Rattle.merge_view.proofs.Decoded.{merged_suits}
use Rattle.merge_view.proofs.laws.merged_messages_suit_the_type.Goals as goal

pub returns : goal.returns
returns c = merged_suits
