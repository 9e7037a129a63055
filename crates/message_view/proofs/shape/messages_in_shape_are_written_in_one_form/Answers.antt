use Rattle.message_view.proofs.Encoded.{shape_written}
use Rattle.message_view.proofs.shape.messages_in_shape_are_written_in_one_form.Goals as goal

pub returns : goal.returns
returns c = shape_written
