use Rattle.text_view.proofs.SoundTypes.{small_defaults}
use Rattle.text_view.proofs.names.defaults_as_in_sources_hold_bytes.Goals as goal

pub returns : goal.returns
returns c = small_defaults
