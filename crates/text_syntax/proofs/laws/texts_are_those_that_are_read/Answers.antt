use Rattle.text_syntax.proofs.Exact.{exact_text}
use Rattle.text_syntax.proofs.laws.texts_are_those_that_are_read.Goals as goal

pub returns : goal.returns
returns c = exact_text
