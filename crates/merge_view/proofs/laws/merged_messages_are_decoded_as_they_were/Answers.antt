use Rattle.merge_view.proofs.Decoded.{merged_read}
use Rattle.merge_view.proofs.laws.merged_messages_are_decoded_as_they_were.Goals as goal

pub returns : goal.returns
returns c = merged_read
