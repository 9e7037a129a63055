use Rattle.schema_laws.proofs.Recoding.{same_meaning}
use Rattle.schema_laws.proofs.laws.recoded_bytes_mean_the_same.Goals as goal

pub returns : goal.returns
returns c = λ s. same_meaning s.pool s.sound
