use Rattle.texts_view.proofs.Batches.{schemas_grow}
use Rattle.texts_view.proofs.growth.schemas_grow_as_files_come.Goals as goal

pub returns : goal.returns
returns c = schemas_grow
