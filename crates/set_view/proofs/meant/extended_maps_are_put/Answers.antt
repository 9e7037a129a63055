use Rattle.set_view.proofs.Longer.{map_put}
use Rattle.set_view.proofs.meant.extended_maps_are_put.Goals as goal

pub returns : goal.returns
returns c = map_put
