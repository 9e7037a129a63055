use Rattle.merge_view.proofs.Decoded.{merged_means}
use Rattle.merge_view.proofs.laws.merged_bytes_mean_what_they_leave.Goals as goal

pub returns : goal.returns
returns c = merged_means
