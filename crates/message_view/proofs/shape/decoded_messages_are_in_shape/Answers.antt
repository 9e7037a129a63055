use Rattle.message_view.proofs.Recoded.{decoded_shaped}
use Rattle.message_view.proofs.shape.decoded_messages_are_in_shape.Goals as goal

pub returns : goal.returns
returns c = decoded_shaped
