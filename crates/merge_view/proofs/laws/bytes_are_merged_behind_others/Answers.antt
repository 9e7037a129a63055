use Rattle.merge_view.proofs.Decoded.{behind_means}
use Rattle.merge_view.proofs.laws.bytes_are_merged_behind_others.Goals as goal

pub returns : goal.returns
returns c = behind_means
