use Rattle.std.proofs.Common.{None}
use Rattle.schema_laws.proofs.Encoding.{one_encoding}
use Rattle.schema_laws.proofs.texts.texts_have_one_encoding.Goals as goal

pub returns : goal.returns
returns c = λ s. one_encoding s.pool s.sound (λ t bytes. None)
