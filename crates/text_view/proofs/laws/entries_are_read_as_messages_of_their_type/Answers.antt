use Rattle.text_view.proofs.Told.{entries_read}
use Rattle.text_view.proofs.laws.entries_are_read_as_messages_of_their_type.Goals as goal

pub returns : goal.returns
returns c = entries_read
