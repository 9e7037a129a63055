use Rattle.schema_laws.proofs.PresentMessages.{linked_present}
use Rattle.schema_laws.proofs.presence.added_sources_keep_messages_present.Goals as goal

pub returns : goal.returns
returns c = λ old new sources h. linked_present old.pool new.pool h.0 old.sound h.2
