use Rattle.schema_laws.proofs.Encoding.{shown}
use Rattle.schema_laws.proofs.texts.decoded_bytes_are_printed_as_they_mean.Goals as goal

pub returns : goal.returns
returns c = λ s. shown s.pool s.sound
