use Rattle.merge_view.proofs.Shaped.{copies_at}
use Rattle.merge_view.proofs.copies.copies_are_in_shape.Goals as goal

pub returns : goal.returns
returns c = copies_at
