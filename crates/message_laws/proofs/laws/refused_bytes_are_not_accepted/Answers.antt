use Rattle.message_laws.proofs.Excluding.{excluded}
use Rattle.message_laws.proofs.laws.refused_bytes_are_not_accepted.Goals as goal

pub returns : goal.returns
returns c = λ levels d keyed bytes e fault rs spelled accepted. excluded d.pool.now keyed levels d.index bytes e fault rs spelled accepted
