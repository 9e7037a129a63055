use Rattle.codec_laws.proofs.Written.{file_read}
use Rattle.codec_laws.proofs.laws.written_files_are_read.Goals as goal

pub returns : goal.returns
returns c = file_read
