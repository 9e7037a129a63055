use Rattle.message_view.specs.Shaped.{HasShape}
use Rattle.message_view.proofs.Changed.{unset_shaped}
use Rattle.message_view.proofs.shape.unset_fields_leave_the_shape.Goals as goal

pub returns : goal.returns
returns c = λ exclusive levels. unset_shaped (HasShape exclusive levels)
