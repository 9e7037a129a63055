use Rattle.message_view.proofs.Changed.{nothing_shaped}
use Rattle.message_view.proofs.shape.empty_messages_are_in_shape.Goals as goal

pub returns : goal.returns
returns c = nothing_shaped
