use Rattle.text_view.proofs.Puts.{target_put}
use Rattle.text_view.proofs.laws.what_is_put_is_assigned.Goals as goal

pub returns : goal.returns
returns c = target_put
