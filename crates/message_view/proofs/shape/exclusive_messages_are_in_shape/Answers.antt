use Rattle.message_view.proofs.Deeper.{exclusive_shaped}
use Rattle.message_view.proofs.shape.exclusive_messages_are_in_shape.Goals as goal

pub returns : goal.returns
returns c = exclusive_shaped
