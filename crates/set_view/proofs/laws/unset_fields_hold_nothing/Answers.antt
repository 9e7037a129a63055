use Rattle.set_view.proofs.Viewed.{field_unset}
use Rattle.set_view.proofs.laws.unset_fields_hold_nothing.Goals as goal

pub returns : goal.returns
returns c = field_unset
