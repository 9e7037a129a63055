use Rattle.schema_laws.proofs.PlainRecords.{sources_plain}
use Rattle.schema_laws.proofs.records.added_sources_leave_records_plain.Goals as goal

pub returns-clause-kept : goal.returns-clause-kept
returns-clause-kept c = λ old new sources. sources_plain old new.pool sources new.sound
