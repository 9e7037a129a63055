use Rattle.linked_view.proofs.Resolved.{names_to, names_from}
use Rattle.linked_view.proofs.laws.names_mean_what_they_are_resolved_to.Goals as goal

pub returns : goal.returns
returns c files known are from sees those w scope name full = (
  λ (d, e). (names_to files known are from sees those w scope name full d e).0,
  names_from files known are from sees those w scope name full,
)
