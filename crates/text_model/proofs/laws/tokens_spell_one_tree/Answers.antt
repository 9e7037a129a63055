use Rattle.text_model.proofs.Reading.{one_tree}
use Rattle.text_model.proofs.laws.tokens_spell_one_tree.Goals as goal

pub returns : goal.returns
returns c = one_tree
