use Rattle.source_grammar.proofs.FileLaws.{one_tree}
use Rattle.source_grammar.proofs.laws.tokens_are_those_of_one_tree.Goals as goal

pub returns : goal.returns
returns c = one_tree
