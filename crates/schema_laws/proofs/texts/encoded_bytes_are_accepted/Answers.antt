use Rattle.schema_laws.proofs.Encoding.{accepted}
use Rattle.schema_laws.proofs.texts.encoded_bytes_are_accepted.Goals as goal

pub returns : goal.returns
returns c = λ s. accepted s.pool s.sound
