use Rattle.valid_view.proofs.Deep.{typed_shaped}
use Rattle.valid_view.proofs.messages.messages_that_are_typed_are_in_shape.Goals as goal

pub returns : goal.returns
returns c = typed_shaped
