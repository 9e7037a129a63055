use Rattle.set_view.proofs.Entered.{extension_suits}
use Rattle.set_view.proofs.meant.extended_map_extensions_suit_the_type.Goals as goal

pub returns : goal.returns
returns c = extension_suits
