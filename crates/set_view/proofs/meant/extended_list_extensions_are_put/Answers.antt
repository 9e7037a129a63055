use Rattle.set_view.proofs.Longer.{list_extension_put}
use Rattle.set_view.proofs.meant.extended_list_extensions_are_put.Goals as goal

pub returns : goal.returns
returns c = list_extension_put
