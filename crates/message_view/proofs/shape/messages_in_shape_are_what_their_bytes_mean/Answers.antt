use Rattle.message_view.proofs.Encoded.{shape_means}
use Rattle.message_view.proofs.shape.messages_in_shape_are_what_their_bytes_mean.Goals as goal

pub returns : goal.returns
returns c = shape_means
