use Rattle.schema_laws.specs.StoredBytes.{SaysNothing}
use Rattle.schema_laws.proofs.Stored.{file_stored, files_stored}
use Rattle.schema_laws.proofs.option_bytes.options_of_written_files_are_bytes.Goals as goal

pub returns-clause-one : goal.returns-clause-one
returns-clause-one c = file_stored SaysNothing

pub returns-clause-set : goal.returns-clause-set
returns-clause-set c = files_stored SaysNothing
