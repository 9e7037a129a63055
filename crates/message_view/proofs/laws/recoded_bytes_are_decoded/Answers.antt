use Rattle.message_view.proofs.Recoded.{recoded_accepted}
use Rattle.message_view.proofs.laws.recoded_bytes_are_decoded.Goals as goal

pub returns : goal.returns
returns c = recoded_accepted
