use Rattle.merge_view.proofs.Cloned.{copy_means}
use Rattle.merge_view.proofs.copies.copies_mean_the_same.Goals as goal

pub returns : goal.returns
returns c = copy_means
