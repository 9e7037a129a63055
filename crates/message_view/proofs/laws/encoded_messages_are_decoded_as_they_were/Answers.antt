use Rattle.message_view.proofs.Recoded.{encoded_read}
use Rattle.message_view.proofs.laws.encoded_messages_are_decoded_as_they_were.Goals as goal

pub returns : goal.returns
returns c = encoded_read
