use Rattle.message_view.proofs.Encoded.{shape_decoded}
use Rattle.message_view.proofs.shape.messages_in_shape_are_decoded_as_they_were.Goals as goal

pub returns : goal.returns
returns c = shape_decoded
