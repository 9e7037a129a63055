use Rattle.known_messages.proofs.Plain.{plain_known}
use Rattle.known_messages.proofs.laws.plain_messages_are_known.Goals as goal

pub returns : goal.returns
returns c = plain_known
