use Rattle.schema_laws.proofs.RefusedOptions.{unsettled}
use Rattle.schema_laws.proofs.batches.sources_with_refused_options_do_not_settle.Goals as goal

pub returns : goal.returns
returns c = λ old sources e (files, are, refused). (files, are, unsettled old.pool files e refused)
