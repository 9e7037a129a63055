use Rattle.schema_laws.proofs.Recoding.{refused}
use Rattle.schema_laws.proofs.laws.refused_bytes_are_not_accepted.Goals as goal

pub returns : goal.returns
returns c = λ s. refused s.pool s.sound
