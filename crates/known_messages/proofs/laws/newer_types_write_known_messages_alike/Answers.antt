use Rattle.known_messages.proofs.Grown.{newer_write_alike}
use Rattle.known_messages.proofs.laws.newer_types_write_known_messages_alike.Goals as goal

pub returns : goal.returns
returns c = newer_write_alike
