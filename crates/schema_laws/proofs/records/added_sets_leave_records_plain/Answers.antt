use Rattle.schema_laws.proofs.PlainRecords.{set_plain}
use Rattle.schema_laws.proofs.records.added_sets_leave_records_plain.Goals as goal

pub returns : goal.returns
returns c = λ old new bytes. set_plain old new.pool bytes new.sound
