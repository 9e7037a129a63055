use Rattle.set_view.proofs.Longer.{map_extension_put}
use Rattle.set_view.proofs.meant.extended_map_extensions_are_put.Goals as goal

pub returns : goal.returns
returns c = map_extension_put
