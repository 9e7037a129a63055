use Rattle.text_view.proofs.Tested.{tested_kinds}
use Rattle.text_view.proofs.laws.messages_that_are_typed_hold_their_kinds.Goals as goal

pub returns : goal.returns
returns c = tested_kinds
