use Rattle.protox_laws.proofs.Sources.{same_record}
use Rattle.protox_laws.proofs.laws.one_source_has_one_record.Goals as goal

pub returns : goal.returns
returns c = same_record
