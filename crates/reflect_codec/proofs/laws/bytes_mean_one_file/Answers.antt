use Rattle.reflect_codec.proofs.Unique.{one_file_of}
use Rattle.reflect_codec.proofs.laws.bytes_mean_one_file.Goals as goal

pub returns : goal.returns
returns c = one_file_of
