use Rattle.linked_view.proofs.SoundBatches.{accepted_sound}
use Rattle.linked_view.proofs.soundness.accepted_files_keep_a_pool_sound.Goals as goal

pub returns : goal.returns
returns c = accepted_sound
