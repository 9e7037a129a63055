use Rattle.linked_view.proofs.Stays.{empty_sound}
use Rattle.linked_view.proofs.soundness.the_empty_pool_is_sound.Goals as goal

pub returns : goal.returns
returns c = empty_sound
