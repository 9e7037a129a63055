use Rattle.schema_laws.proofs.Chains.{newest_takes, next_takes}
use Rattle.schema_laws.proofs.laws.chains_of_schemas_are_taken.Goals as goal

pub returns-clause-newest : goal.returns-clause-newest
returns-clause-newest c = λ new ss older k bytes out small takes came. newest_takes new ss older bytes out small takes came k

pub returns-clause-next : goal.returns-clause-next
returns-clause-next c = λ new old ss older is k bytes out small takes came. next_takes new ss older bytes out small takes came old is k
