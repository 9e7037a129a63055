use Rattle.text_model.proofs.Merging.{one_text}
use Rattle.text_model.proofs.laws.a_text_spells_one_tree.Goals as goal

pub returns : goal.returns
returns c = one_text
