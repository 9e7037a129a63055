use Rattle.settled_records.proofs.Typed.{typed_plain}
use Rattle.settled_records.proofs.linking.typed_records_are_plain.Goals as goal

pub returns : goal.returns
returns c = typed_plain
