use Rattle.merge_view.proofs.Decoded.{merged_in_shape}
use Rattle.merge_view.proofs.laws.merged_messages_are_in_shape.Goals as goal

pub returns : goal.returns
returns c = merged_in_shape
