use Rattle.settled_records.proofs.Typed.{typed_given}
use Rattle.schema_laws.proofs.SettledEntities.{stored_there}
use Rattle.schema_laws.proofs.SourceFiles.{options_of}
use Rattle.schema_laws.proofs.braces.options_of_added_sources_come_to_what_is_stored.Goals as goal

pub returns : goal.returns
returns c = λ old linked s given files are fit settles changes whole.
    stored_there old linked s.pool fit.0 fit.2.1 settles changes whole
    (typed_given files fit.0 (options_of given files are) fit.1)
