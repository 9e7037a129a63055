use Rattle.text_syntax.proofs.Exact.{exact}
use Rattle.text_syntax.proofs.laws.texts_are_read_as_their_trees.Goals as goal

pub returns : goal.returns
returns c = exact
