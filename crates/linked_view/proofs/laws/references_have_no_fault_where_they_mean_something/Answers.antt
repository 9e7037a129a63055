use Rattle.linked_view.proofs.References.{referred_to, referred_from}
use Rattle.linked_view.proofs.laws.references_have_no_fault_where_they_mean_something.Goals as goal

pub returns : goal.returns
returns c files new known sees at before first are those complete = (
  referred_to files known are at sees before first new those complete,
  referred_from files known are at sees before first new those,
)
