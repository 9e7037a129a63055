use Rattle.message_view.proofs.Recoded.{recoded_passes}
use Rattle.message_view.proofs.laws.bytes_pass_through_an_older_type.Goals as goal

pub returns : goal.returns
returns c = recoded_passes
