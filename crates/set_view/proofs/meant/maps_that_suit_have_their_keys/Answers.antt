use Rattle.set_view.proofs.Keyed.{field_keys}
use Rattle.set_view.proofs.meant.maps_that_suit_have_their_keys.Goals as goal

pub returns : goal.returns
returns c = field_keys
