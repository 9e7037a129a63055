use Rattle.merge_view.proofs.Decoded.{pieces_written}
use Rattle.merge_view.proofs.laws.pieces_are_written_as_one.Goals as goal

pub returns : goal.returns
returns c = pieces_written
