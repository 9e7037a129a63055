use Rattle.stored_options.proofs.Linking.{copied_as_before}
use Rattle.stored_options.proofs.laws.settled_options_say_what_linking_read.Goals as goal

pub returns : goal.returns
returns c = copied_as_before
