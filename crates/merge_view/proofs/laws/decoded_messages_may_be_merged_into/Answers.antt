use Rattle.merge_view.proofs.Decoded.{decoded_fits}
use Rattle.merge_view.proofs.laws.decoded_messages_may_be_merged_into.Goals as goal

pub returns : goal.returns
returns c = decoded_fits
