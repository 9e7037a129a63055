use Rattle.schema_laws.proofs.Encoding.{refused}
use Rattle.schema_laws.proofs.texts.refused_texts_give_no_message.Goals as goal

pub returns : goal.returns
returns c = λ s. refused s.pool s.sound
