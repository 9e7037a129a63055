use Rattle.message_view.specs.Shaped.{HasShape}
use Rattle.set_view.proofs.Mapped.{map_in_shape}
use Rattle.set_view.proofs.maps.extended_maps_leave_the_shape.Goals as goal

pub returns : goal.returns
returns c = λ exclusive levels. map_in_shape (HasShape exclusive levels)
