use Rattle.schema_laws.proofs.PlacedLinking.{told_in_files}
use Rattle.schema_laws.proofs.places.faults_of_linking_stand_in_their_files.Goals as goal

pub returns : goal.returns
returns c = told_in_files
