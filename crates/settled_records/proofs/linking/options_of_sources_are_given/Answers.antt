use Rattle.settled_records.proofs.Typed.{typed_given}
use Rattle.settled_records.proofs.linking.options_of_sources_are_given.Goals as goal

pub returns : goal.returns
returns c = typed_given
