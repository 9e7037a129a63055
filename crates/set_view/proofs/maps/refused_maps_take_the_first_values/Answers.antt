use Rattle.set_view.proofs.Mapped.{some_are_front}
use Rattle.set_view.proofs.maps.refused_maps_take_the_first_values.Goals as goal

pub returns : goal.returns
returns c = some_are_front
