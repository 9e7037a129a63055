use Rattle.linked_view.proofs.Stays.{settled_sound}
use Rattle.linked_view.proofs.soundness.settled_pools_stay_sound.Goals as goal

pub returns : goal.returns
returns c = settled_sound
