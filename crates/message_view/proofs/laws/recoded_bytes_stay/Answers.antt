use Rattle.message_view.proofs.Recoded.{recoded_twice}
use Rattle.message_view.proofs.laws.recoded_bytes_stay.Goals as goal

pub returns : goal.returns
returns c = recoded_twice
