use Rattle.protox_record.proofs.Apart.{same_field}
use Rattle.protox_record.proofs.laws.oneofs_are_apart.Goals as goal

pub returns : goal.returns
returns c = same_field
