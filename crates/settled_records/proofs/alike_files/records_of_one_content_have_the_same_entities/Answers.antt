use Rattle.settled_records.proofs.Walk.{same_entities}
use Rattle.settled_records.proofs.alike_files.records_of_one_content_have_the_same_entities.Goals as goal

pub returns : goal.returns
returns c = same_entities
