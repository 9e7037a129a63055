use Rattle.linked_view.proofs.Ranged.{numbers_are}
use Rattle.linked_view.proofs.laws.accepted_numbers_are_kept.Goals as goal

pub returns : goal.returns
returns c = numbers_are
