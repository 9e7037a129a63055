use Rattle.linked_view.proofs.Entries.{entries_are}
use Rattle.linked_view.proofs.laws.accepted_entries_have_one_use.Goals as goal

pub returns : goal.returns
returns c = entries_are
