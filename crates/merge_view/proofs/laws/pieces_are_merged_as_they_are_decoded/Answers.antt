use Rattle.merge_view.proofs.Decoded.{pieces_alike}
use Rattle.merge_view.proofs.laws.pieces_are_merged_as_they_are_decoded.Goals as goal

pub returns : goal.returns
returns c = pieces_alike
