use Rattle.print_view.proofs.OneView.{seen_alike}
use Rattle.print_view.proofs.laws.bytes_are_seen_as_one_message.Goals as goal

pub returns : goal.returns
returns c = seen_alike
