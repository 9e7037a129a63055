use Rattle.text_scalars.proofs.Finding.{scalars}
use Rattle.text_scalars.proofs.laws.scalars_are_found_by_their_tokens.Goals as goal

pub returns : goal.returns
returns c = scalars
