use Rattle.text_view.proofs.Bodies.{filled_shape}
use Rattle.text_view.proofs.laws.filled_messages_stay_in_shape.Goals as goal

pub returns : goal.returns
returns c = filled_shape
