use Rattle.set_view.proofs.Viewed.{field_put}
use Rattle.set_view.proofs.laws.set_fields_are_put.Goals as goal

pub returns : goal.returns
returns c = field_put
