use Rattle.linked_names.proofs.Typed.{typed_files}
use Rattle.linked_names.proofs.laws.typed_options_say_nothing_of_names.Goals as goal

pub returns : goal.returns
returns c = typed_files
