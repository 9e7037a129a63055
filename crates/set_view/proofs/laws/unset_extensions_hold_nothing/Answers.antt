use Rattle.set_view.proofs.Viewed.{extension_unset}
use Rattle.set_view.proofs.laws.unset_extensions_hold_nothing.Goals as goal

pub returns : goal.returns
returns c = extension_unset
