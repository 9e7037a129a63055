use Rattle.print_view.proofs.Back.{same_written}
use Rattle.print_view.proofs.laws.printed_messages_are_read_back.Goals as goal

pub returns : goal.returns
returns c = same_written
