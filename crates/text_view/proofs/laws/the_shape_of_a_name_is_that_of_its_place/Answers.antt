use Rattle.text_view.proofs.Shapes.{shape_is}
use Rattle.text_view.proofs.laws.the_shape_of_a_name_is_that_of_its_place.Goals as goal

pub returns : goal.returns
returns c = shape_is
