use Rattle.schema_laws.proofs.ReadUnset.{linked_unset}
use Rattle.schema_laws.proofs.presence.added_sets_keep_unset_read.Goals as goal

pub returns : goal.returns
returns c = λ old new bytes h lone. linked_unset old.pool new.pool h.0 old.sound new.sound (lone h.0 h.1) h.2
