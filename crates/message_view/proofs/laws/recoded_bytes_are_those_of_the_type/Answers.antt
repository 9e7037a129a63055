use Rattle.message_view.proofs.Recoded.{recodes}
use Rattle.message_view.proofs.laws.recoded_bytes_are_those_of_the_type.Goals as goal

pub returns : goal.returns
returns c = recodes
