use Rattle.stored_options.proofs.Copied.{read_copied, set_reads, source_reads}
use Rattle.stored_options.proofs.laws.given_options_are_read_as_their_bytes.Goals as goal

pub returns-clause-set : goal.returns-clause-set
returns-clause-set c = set_reads

pub returns-clause-source : goal.returns-clause-source
returns-clause-source c = source_reads

pub returns-clause-copied : goal.returns-clause-copied
returns-clause-copied c = read_copied
