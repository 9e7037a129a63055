use Rattle.set_view.proofs.Lasting.{list_suits}
use Rattle.set_view.proofs.meant.longer_lists_suit_the_field.Goals as goal

pub returns : goal.returns
returns c = list_suits
