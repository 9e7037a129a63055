use Rattle.text_model.proofs.Merging.{in_pieces}
use Rattle.text_model.proofs.laws.fields_are_merged_in_pieces.Goals as goal

pub returns : goal.returns
returns c = in_pieces
