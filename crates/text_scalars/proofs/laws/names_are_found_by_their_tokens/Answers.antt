use Rattle.text_scalars.proofs.Named.{names}
use Rattle.text_scalars.proofs.laws.names_are_found_by_their_tokens.Goals as goal

pub returns : goal.returns
returns c = names
