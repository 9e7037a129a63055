use Rattle.reflect_faults.specs.Faults.{batch_places}
use Rattle.linked_view.proofs.Named.{named_to, named_from}
use Rattle.linked_view.proofs.laws.names_have_no_fault_where_they_are_apart.Goals as goal

pub returns : goal.returns
returns c indexes before first old new placed are = (
  named_to (batch_places new first) indexes before first old new placed are,
  named_from (batch_places new first) indexes before first old new placed are,
)
