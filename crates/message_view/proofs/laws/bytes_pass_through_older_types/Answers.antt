use Rattle.message_view.proofs.Recoded.{chain_passes}
use Rattle.message_view.proofs.laws.bytes_pass_through_older_types.Goals as goal

pub returns : goal.returns
returns c = chain_passes
