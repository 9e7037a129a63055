use Rattle.set_view.proofs.Owned.{field_owns}
use Rattle.set_view.proofs.own.declared_fields_are_the_types_own.Goals as goal

pub returns : goal.returns
returns c = field_owns
