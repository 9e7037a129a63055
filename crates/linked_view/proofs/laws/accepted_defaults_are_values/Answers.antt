use Rattle.linked_view.proofs.Defaulted.{defaults_are}
use Rattle.linked_view.proofs.laws.accepted_defaults_are_values.Goals as goal

pub returns : goal.returns
returns c = defaults_are
