use Rattle.message_view.proofs.Recoded.{recodes_named}
use Rattle.message_view.proofs.laws.bytes_are_recoded_by_name.Goals as goal

pub returns : goal.returns
returns c = recodes_named
