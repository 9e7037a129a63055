use Rattle.set_view.proofs.Entered.{field_suits}
use Rattle.set_view.proofs.meant.extended_maps_suit_the_type.Goals as goal

pub returns : goal.returns
returns c = field_suits
