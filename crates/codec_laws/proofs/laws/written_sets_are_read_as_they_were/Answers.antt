use Rattle.codec_laws.proofs.Again.{read_again}
use Rattle.codec_laws.proofs.laws.written_sets_are_read_as_they_were.Goals as goal

pub returns : goal.returns
returns c = read_again
