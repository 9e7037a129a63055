use Rattle.set_view.proofs.Lasting.{map_suits}
use Rattle.set_view.proofs.meant.fuller_maps_suit_the_field.Goals as goal

pub returns : goal.returns
returns c = map_suits
