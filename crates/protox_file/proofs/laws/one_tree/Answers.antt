use Rattle.protox_file.proofs.Texts.{same_tree}
use Rattle.protox_file.proofs.laws.one_tree.Goals as goal

pub returns : goal.returns
returns c = same_tree
