use Rattle.schema_laws.proofs.PresentMessages.{printed_present}
use Rattle.schema_laws.proofs.presence.present_messages_are_printed.Goals as goal

pub returns : goal.returns
returns c = λ s. printed_present s.pool
