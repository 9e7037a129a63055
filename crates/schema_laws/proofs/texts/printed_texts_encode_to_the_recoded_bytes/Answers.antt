use Rattle.schema_laws.proofs.Encoding.{back}
use Rattle.schema_laws.proofs.texts.printed_texts_encode_to_the_recoded_bytes.Goals as goal

pub returns : goal.returns
returns c = λ s decoded named name bytes text out again are decodes recodes m means plain shallow encodes. back s.pool s.sound decoded named name bytes text are decodes m means plain shallow out again recodes encodes
