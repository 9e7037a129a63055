use Rattle.message_view.specs.Shaped.{HasShape}
use Rattle.message_view.proofs.Changed.{set_shaped}
use Rattle.message_view.proofs.shape.set_fields_leave_the_shape.Goals as goal

pub returns : goal.returns
returns c = λ exclusive levels. set_shaped (HasShape exclusive levels)
