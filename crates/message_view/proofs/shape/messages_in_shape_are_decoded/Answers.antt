use Rattle.message_view.proofs.Encoded.{shape_accepted}
use Rattle.message_view.proofs.shape.messages_in_shape_are_decoded.Goals as goal

pub returns : goal.returns
returns c = shape_accepted
