use Rattle.source_grammar.proofs.SameTrees.{same_trees}
use Rattle.source_grammar.proofs.laws.sources_of_the_same_tokens_spell_the_same.Goals as goal

pub returns : goal.returns
returns c = same_trees
