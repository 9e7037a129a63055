use Rattle.message_view.proofs.Decoded.{told_refused}
use Rattle.message_view.proofs.laws.refused_bytes_are_not_accepted.Goals as goal

pub returns : goal.returns
returns c = told_refused
