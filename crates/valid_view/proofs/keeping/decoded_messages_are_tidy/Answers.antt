use Rattle.valid_view.proofs.Decoded.{decoded_tidy}
use Rattle.valid_view.proofs.Solidly.{decoded_solid}
use Rattle.valid_view.proofs.keeping.decoded_messages_are_tidy.Goals as goal

pub returns-clause-tidy : goal.returns-clause-tidy
returns-clause-tidy c = decoded_tidy

pub returns-clause-solid : goal.returns-clause-solid
returns-clause-solid c = decoded_solid
