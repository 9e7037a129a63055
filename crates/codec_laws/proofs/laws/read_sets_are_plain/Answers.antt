use Rattle.codec_laws.proofs.Said.{set_says}
use Rattle.codec_laws.proofs.laws.read_sets_are_plain.Goals as goal

pub returns : goal.returns
returns c = set_says
