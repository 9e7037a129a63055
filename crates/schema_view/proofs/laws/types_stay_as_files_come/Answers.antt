use Rattle.schema_view.proofs.Growing.{grown_types}
use Rattle.schema_view.proofs.laws.types_stay_as_files_come.Goals as goal

pub returns : goal.returns
returns c = grown_types
