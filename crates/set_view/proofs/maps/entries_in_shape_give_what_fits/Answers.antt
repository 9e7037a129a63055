use Rattle.set_view.proofs.Given.{given_fits}
use Rattle.set_view.proofs.maps.entries_in_shape_give_what_fits.Goals as goal

pub returns : goal.returns
returns c = given_fits
