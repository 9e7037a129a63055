use Rattle.text_view.proofs.Stopped.{stopped_stays}
use Rattle.text_view.proofs.laws.refused_messages_stay_exclusive.Goals as goal

pub returns : goal.returns
returns c = stopped_stays
