use Rattle.message_view.proofs.Decoded.{merged_accepted}
use Rattle.message_view.proofs.laws.merged_bytes_are_accepted.Goals as goal

pub returns : goal.returns
returns c = merged_accepted
