use Rattle.linked_view.proofs.Added.{alone_added}
use Rattle.linked_view.proofs.laws.lawful_files_that_agree_are_added.Goals as goal

pub returns : goal.returns
returns c = alone_added
