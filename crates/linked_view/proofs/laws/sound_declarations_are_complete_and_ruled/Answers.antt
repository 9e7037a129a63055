use Rattle.linked_view.proofs.Sound.{sound_parts, parts_sound}
use Rattle.linked_view.proofs.laws.sound_declarations_are_complete_and_ruled.Goals as goal

pub returns : goal.returns
returns c fs = (sound_parts fs, parts_sound fs)
