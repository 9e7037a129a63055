use Rattle.protox_file.proofs.Texts.{dead}
use Rattle.protox_file.proofs.laws.refused_tokens_begin_no_file.Goals as goal

pub returns : goal.returns
returns c = dead
