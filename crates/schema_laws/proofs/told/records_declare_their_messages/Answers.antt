use Rattle.schema_laws.proofs.Accepted.{empty_tells, accepted_tell}
use Rattle.schema_laws.proofs.Stays.{settled_tells}
use Rattle.schema_laws.proofs.told.records_declare_their_messages.Goals as goal

pub returns-clause-empty : goal.returns-clause-empty
returns-clause-empty c = empty_tells

pub returns-clause-accepted : goal.returns-clause-accepted
returns-clause-accepted c = accepted_tell

pub returns-clause-settled : goal.returns-clause-settled
returns-clause-settled c = settled_tells
