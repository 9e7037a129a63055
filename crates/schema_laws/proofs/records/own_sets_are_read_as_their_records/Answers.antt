use Rattle.schema_laws.proofs.OwnSets.{own_read, own_same}
use Rattle.schema_laws.proofs.records.own_sets_are_read_as_their_records.Goals as goal

pub returns-clause-read : goal.returns-clause-read
returns-clause-read c = own_read

pub returns-clause-same : goal.returns-clause-same
returns-clause-same c = λ s files plain short. own_same s plain short files
