use Rattle.text_view.proofs.Adds.{added}
use Rattle.text_view.proofs.laws.what_is_added_to_a_list_stands_behind.Goals as goal

pub returns : goal.returns
returns c = added
