use Rattle.set_view.proofs.Longer.{list_put}
use Rattle.set_view.proofs.meant.extended_lists_are_put.Goals as goal

pub returns : goal.returns
returns c = list_put
