use Rattle.linked_names.proofs.Typed.{typed_lists}
use Rattle.linked_names.proofs.laws.typed_options_say_nothing_of_oneofs.Goals as goal

pub returns : goal.returns
returns c = typed_lists
