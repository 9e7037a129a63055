use Rattle.schema_laws.proofs.Naming.{named_by_sources}
use Rattle.schema_laws.proofs.names.added_sources_keep_source_names.Goals as goal

pub returns : goal.returns
returns c = λ old new sources. named_by_sources old.pool new.pool sources old.sound
