use Rattle.set_view.proofs.Parts.{given_suits}
use Rattle.set_view.proofs.meant.entries_that_suit_give_what_suits.Goals as goal

pub returns : goal.returns
returns c = λ levels depth pool sound f is_map whole v fits suits. given_suits levels depth pool sound f is_map v fits suits whole
