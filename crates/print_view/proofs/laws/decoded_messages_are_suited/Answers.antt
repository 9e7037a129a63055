use Rattle.print_view.proofs.Suited.{decoded_suited}
use Rattle.print_view.proofs.laws.decoded_messages_are_suited.Goals as goal

pub returns : goal.returns
returns c = decoded_suited
