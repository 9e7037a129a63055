use Rattle.schema_laws.proofs.ReadUnset.{sources_unset}
use Rattle.schema_laws.proofs.presence.added_sources_keep_unset_read.Goals as goal

pub returns : goal.returns
returns c = λ old new sources h. sources_unset old.pool new.pool sources old.sound new.sound h
