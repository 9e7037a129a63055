use Rattle.text_view.proofs.Told.{map_put}
use Rattle.text_view.proofs.laws.what_is_put_into_a_map_is_added.Goals as goal

pub returns : goal.returns
returns c = map_put
