use Rattle.schema_laws.proofs.Recoding.{accepted}
use Rattle.schema_laws.proofs.laws.decoded_bytes_are_accepted.Goals as goal

pub returns : goal.returns
returns c = λ s. accepted s.pool s.sound
