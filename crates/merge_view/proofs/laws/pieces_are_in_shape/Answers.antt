use Rattle.merge_view.proofs.Decoded.{pieces_in_shape}
use Rattle.merge_view.proofs.laws.pieces_are_in_shape.Goals as goal

pub returns : goal.returns
returns c = pieces_in_shape
