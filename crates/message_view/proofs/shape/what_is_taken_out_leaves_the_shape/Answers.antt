use Rattle.message_view.specs.Shaped.{HasShape}
use Rattle.message_view.proofs.Taken.{taken_shaped}
use Rattle.message_view.proofs.shape.what_is_taken_out_leaves_the_shape.Goals as goal

pub returns : goal.returns
returns c = λ exclusive levels old new taken. taken_shaped old new taken (HasShape exclusive levels)
