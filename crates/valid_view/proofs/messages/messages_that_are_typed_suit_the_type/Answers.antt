use Rattle.valid_view.proofs.Typed.{typed_suits}
use Rattle.valid_view.proofs.messages.messages_that_are_typed_suit_the_type.Goals as goal

pub returns : goal.returns
returns c = typed_suits
