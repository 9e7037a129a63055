use Rattle.schema_laws.proofs.Encoding.{encoded}
use Rattle.schema_laws.proofs.texts.encoded_texts_give_their_messages.Goals as goal

pub returns : goal.returns
returns c = λ s. encoded s.pool s.sound
