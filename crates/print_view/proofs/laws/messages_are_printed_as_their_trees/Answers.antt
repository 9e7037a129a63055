use Rattle.print_view.proofs.Printed.{fields_printed}
use Rattle.print_view.proofs.laws.messages_are_printed_as_their_trees.Goals as goal

pub returns : goal.returns
returns c = fields_printed
