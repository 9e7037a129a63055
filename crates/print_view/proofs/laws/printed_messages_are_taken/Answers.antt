use Rattle.print_view.proofs.Back.{is_taken}
use Rattle.print_view.proofs.laws.printed_messages_are_taken.Goals as goal

pub returns : goal.returns
returns c = is_taken
