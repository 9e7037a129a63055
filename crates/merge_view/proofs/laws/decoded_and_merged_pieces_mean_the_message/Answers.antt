use Rattle.merge_view.proofs.Decoded.{pieces_mean}
use Rattle.merge_view.proofs.laws.decoded_and_merged_pieces_mean_the_message.Goals as goal

pub returns : goal.returns
returns c = pieces_mean
