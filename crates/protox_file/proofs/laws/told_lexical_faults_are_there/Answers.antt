use Rattle.protox_file.proofs.FileLaws.{Local-file}
use Rattle.protox_file.proofs.laws.told_lexical_faults_are_there.Goals as goal
use Rattle.protox_tokens.proofs.Lexical.{there}

pub returns : goal.returns
returns c = λ z e h. there Local-file z h.0 e h.1 h.2
