use Rattle.set_view.proofs.Keyed.{extension_keys}
use Rattle.set_view.proofs.meant.map_extensions_that_suit_have_their_keys.Goals as goal

pub returns : goal.returns
returns c = extension_keys
