use Rattle.text_view.proofs.Named.{extensions_found}
use Rattle.text_view.proofs.laws.named_extensions_are_found.Goals as goal

pub returns : goal.returns
returns c = extensions_found
