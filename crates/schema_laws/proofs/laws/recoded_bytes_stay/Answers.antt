use Rattle.schema_laws.proofs.Recoding.{stays}
use Rattle.schema_laws.proofs.laws.recoded_bytes_stay.Goals as goal

pub returns : goal.returns
returns c = λ s. stays s.pool s.sound
