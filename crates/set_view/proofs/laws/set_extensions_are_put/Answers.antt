use Rattle.set_view.proofs.Viewed.{extension_put}
use Rattle.set_view.proofs.laws.set_extensions_are_put.Goals as goal

pub returns : goal.returns
returns c = extension_put
