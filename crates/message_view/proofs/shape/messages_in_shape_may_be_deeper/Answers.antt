use Rattle.message_view.proofs.Deeper.{deeper_shape}
use Rattle.message_view.proofs.shape.messages_in_shape_may_be_deeper.Goals as goal

pub returns : goal.returns
returns c = deeper_shape
