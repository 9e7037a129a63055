use Rattle.merge_view.proofs.Suiting.{exclusive_suits}
use Rattle.merge_view.proofs.laws.exclusive_messages_may_be_merged_into.Goals as goal

pub returns : goal.returns
returns c = exclusive_suits
