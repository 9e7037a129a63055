use Rattle.schema_laws.proofs.SameViews.{same_view}
use Rattle.schema_laws.proofs.orders.schemas_of_the_same_files_have_one_view.Goals as goal

pub returns : goal.returns
returns c = same_view
