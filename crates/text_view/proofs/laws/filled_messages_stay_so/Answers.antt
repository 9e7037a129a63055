use Rattle.text_view.proofs.Filling.{stays_so}
use Rattle.text_view.proofs.laws.filled_messages_stay_so.Goals as goal

pub returns : goal.returns
returns c = stays_so
