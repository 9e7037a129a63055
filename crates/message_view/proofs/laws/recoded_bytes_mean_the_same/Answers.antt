use Rattle.message_view.proofs.Recoded.{recoded_means}
use Rattle.message_view.proofs.laws.recoded_bytes_mean_the_same.Goals as goal

pub returns : goal.returns
returns c = recoded_means
