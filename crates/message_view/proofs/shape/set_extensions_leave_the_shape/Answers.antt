use Rattle.message_view.specs.Shaped.{HasShape}
use Rattle.message_view.proofs.Changed.{set_extension_shaped}
use Rattle.message_view.proofs.shape.set_extensions_leave_the_shape.Goals as goal

pub returns : goal.returns
returns c = λ exclusive levels. set_extension_shaped (HasShape exclusive levels)
