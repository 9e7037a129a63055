use Rattle.valid_view.proofs.Decoded.{decoded_typed}
use Rattle.valid_view.proofs.messages.decoded_messages_are_typed.Goals as goal

pub returns : goal.returns
returns c = decoded_typed
