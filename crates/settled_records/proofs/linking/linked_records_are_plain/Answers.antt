use Rattle.plain_records.specs.SaidOptions.{SaysOrWaits}
use Rattle.settled_records.proofs.Accepted.{linked_plain}
use Rattle.settled_records.proofs.linking.linked_records_are_plain.Goals as goal

pub returns : goal.returns
returns c = linked_plain SaysOrWaits
