use Rattle.merge_view.proofs.Decoded.{each_means}
use Rattle.merge_view.proofs.laws.pieces_mean_the_message.Goals as goal

pub returns : goal.returns
returns c = each_means
