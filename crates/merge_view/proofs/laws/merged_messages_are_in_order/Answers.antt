use Rattle.merge_view.proofs.Decoded.{merged_in_order}
use Rattle.merge_view.proofs.laws.merged_messages_are_in_order.Goals as goal

pub returns : goal.returns
returns c = merged_in_order
