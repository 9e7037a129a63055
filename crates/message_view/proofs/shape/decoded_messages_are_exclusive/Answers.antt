use Rattle.message_view.proofs.Recoded.{decoded_exclusive}
use Rattle.message_view.proofs.shape.decoded_messages_are_exclusive.Goals as goal

pub returns : goal.returns
returns c = decoded_exclusive
