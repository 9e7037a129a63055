use Rattle.set_view.proofs.Parts.{given_keyed}
use Rattle.set_view.proofs.meant.entries_that_suit_give_their_keys.Goals as goal

pub returns : goal.returns
returns c = given_keyed
