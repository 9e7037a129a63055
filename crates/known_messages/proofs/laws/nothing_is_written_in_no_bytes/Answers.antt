use Rattle.known_messages.proofs.Forms.{nothing_formed, only_nothing}
use Rattle.known_messages.proofs.laws.nothing_is_written_in_no_bytes.Goals as goal

pub returns-clause-none : goal.returns-clause-none
returns-clause-none c = nothing_formed

pub returns-clause-only : goal.returns-clause-only
returns-clause-only c = only_nothing
