use Rattle.codec_laws.proofs.Said.{file_says}
use Rattle.codec_laws.proofs.laws.read_files_are_plain.Goals as goal

pub returns : goal.returns
returns c = file_says
