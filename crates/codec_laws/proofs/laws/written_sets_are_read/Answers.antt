use Rattle.codec_laws.proofs.Written.{set_read}
use Rattle.codec_laws.proofs.laws.written_sets_are_read.Goals as goal

pub returns : goal.returns
returns c = set_read
