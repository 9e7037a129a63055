use Rattle.message_view.proofs.Recoded.{decoded_written}
use Rattle.message_view.proofs.laws.decoded_messages_are_written_in_one_form.Goals as goal

pub returns : goal.returns
returns c = decoded_written
