use Rattle.text_view.proofs.SoundTypes.{sound_types}
use Rattle.text_view.proofs.names.sound_pools_have_sound_types.Goals as goal

pub returns : goal.returns
returns c = sound_types
