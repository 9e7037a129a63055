use Rattle.schema_laws.proofs.Recoding.{recodes}
use Rattle.schema_laws.proofs.laws.schemas_recode_as_types_do.Goals as goal

pub returns : goal.returns
returns c = λ s. recodes s.pool s.sound
